use mathlib.Core.Path.{◌∙◌}
use borrow.Author.Rules.{rules}
use Rattle.reader.proofs.FeatureLoop.{reading_start, reading_faulty, reading_ample, reading_broken, reading_less, reading_turn, reading_end}
use Rattle.reader.proofs.features.feature_head.Goals as goal

pub loop-at-init : goal.loop-at-init
loop-at-init c = reading_start _ _

pub returns-in_err-f : goal.returns-in_err-f
returns-in_err-f c = let e = reading_faulty c.loop-at.invariant _ (search rules) c.field_at.ensures c.in_err-f.was in c.from_residual.ensures ∙ e

pub with_field-requires : goal.with_field-requires
with_field-requires c = reading_ample c.loop-at.invariant _ (search rules) c.field_at.ensures _ c.in_ok-f.was

pub returns-in_err-h : goal.returns-in_err-h
returns-in_err-h c =
    let e = reading_broken c.loop-at.invariant _ (search rules) c.field_at.ensures _ c.in_ok-f.was _ c.with_field.ensures c.in_err-h.was in
    c.from_residual-in_err-h.ensures ∙ e

pub loop-at-smaller : goal.loop-at-smaller
loop-at-smaller c = reading_less c.loop-at.invariant _ (search rules) c.field_at.ensures _ c.in_ok-f.was

pub loop-at-preserved : goal.loop-at-preserved
loop-at-preserved c =
    reading_turn c.loop-at.invariant _ (search rules) c.field_at.ensures _ c.in_ok-f.was _ c.with_field.ensures _ c.in_ok-h.was

pub returns : goal.returns
returns c = search (rules, reading_end)
