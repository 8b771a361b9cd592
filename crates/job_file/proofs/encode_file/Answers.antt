-- A file without a body is refused; else its body's job is its own.
use native.Mathlib.Omega.{arith}
use Rattle.job_file.proofs.Taking.{whole_file, cut_words, whole_words}
use Rattle.job_file.proofs.encode_file.Goals as goal

pub encode_body-requires : goal.encode_body-requires
encode_body-requires c =
    let w = whole_file _ _ c.body_of.ensures _ c.in-Some.is in record { le_body = omega (arith, w.at); body_in_bounds = omega (arith, w.at, w.table, w.ends); file_in_bounds = omega (arith, w.few) }

pub returns-in_default : goal.returns-in_default
returns-in_default c = cut_words _ _ c.body_of.ensures c.in_default.is _

pub returns : goal.returns
returns c = whole_words _ _ (whole_file _ _ c.body_of.ensures _ c.in-Some.is) _ _ _ c.encode_body.ensures
