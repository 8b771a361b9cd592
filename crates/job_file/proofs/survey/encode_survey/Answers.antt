-- A file without a body, or whose body is not filled, is refused; else its body's job is its own.
use native.Mathlib.Omega.{arith}
use Rattle.job_file.proofs.Taking.{whole_file}
use Rattle.job_file.proofs.Surveying.{cut_survey, no_map, cut_point, whole_survey}
use Rattle.job_file.proofs.survey.encode_survey.Goals as goal

pub overflow_sub-rest : goal.overflow_sub-rest
overflow_sub-rest c = let w = whole_file _ _ c.body_of.ensures _ c.in-Some.is in omega (arith, w.at, w.table, w.ends)

pub returns-then-rest-lt12 : goal.returns-then-rest-lt12
returns-then-rest-lt12 c = no_map _ _ (whole_file _ _ c.body_of.ensures _ c.in-Some.is) _ c.if-rest-lt12.true

pub returns-then-rest-ne0 : goal.returns-then-rest-ne0
returns-then-rest-ne0 c = cut_point _ _ (whole_file _ _ c.body_of.ensures _ c.in-Some.is) _ (omega (arith, c.if-rest-lt12.false)) c.if-rest-ne0.true

pub encode_body-requires : goal.encode_body-requires
encode_body-requires c =
    let w = whole_file _ _ c.body_of.ensures _ c.in-Some.is in record { le_body = omega (arith, w.at); body_in_bounds = omega (arith, c.if-rest-lt12.false, w.at, w.table, w.ends); file_len_bound = omega (arith, w.few) }

pub returns-in_default : goal.returns-in_default
returns-in_default c = cut_survey _ _ c.body_of.ensures c.in_default.is _

pub returns : goal.returns
returns c = whole_survey _ _ (whole_file _ _ c.body_of.ensures _ c.in-Some.is) _ (omega (arith, c.if-rest-lt12.false)) c.if-rest-ne0.false _ _ c.encode_body.ensures
