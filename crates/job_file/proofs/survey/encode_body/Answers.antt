-- The doubles are laid: the front of their list is the map and what the job is given.
use mathlib.Core.Path.{refl}
use Rattle.job_file.proofs.Surveying.{surveyed_body}
use Rattle.job_file.proofs.survey.encode_body.Goals as goal

pub returns : goal.returns
returns c =
    surveyed_body c.args.file.now c.args.doubles.now c.args.body c.requires.body_in_bounds c.requires.file_len_bound _ refl _ c.lay_doubles.ensures _ refl c.args.words.now _ c.box_of.ensures _ _ c.encode.ensures
