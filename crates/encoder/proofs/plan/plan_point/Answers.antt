-- Each draft is the one before it after an emission.
use Rattle.std.specs.Prelude.{Option, Some}
use mathlib.Core.Path.{◌≡◌, ap, sym, ◌∙◌}
use Rattle.clip.specs.declared.Pt.{Pt}
use Rattle.encoder.specs.Drafts.{state_in, emitted_if}
use Rattle.encoder.proofs.Plans.{asked1, asked2}
use Rattle.encoder.proofs.plan.plan_point.Goals as goal

pub emit_point-only-requires : goal.emit_point-only-requires
emit_point-only-requires c = let whole = asked1 c.args.d c.args.ends c.args.q c.requires.ready c.requires.few c.requires.near c.emit_if-first.result c.emit_if-first.ensures in record { ready = whole.0; few = whole.1 }

pub emit_point-second-requires : goal.emit_point-second-requires
emit_point-second-requires c = let whole = asked1 c.args.d c.args.ends c.args.q c.requires.ready c.requires.few c.requires.near c.emit_if-first.result c.emit_if-first.ensures in record { ready = whole.0; few = whole.1 }

-- the second end moved, and its emission is that of `emitted_if`
moved : (c : goal.After-emit_point-second) → state_in c.emit_point-second.result ≡ (emitted_if (state_in c.emit_if-first.result) c.args.ends.end1).next
moved c = c.emit_point-second.ensures ∙ ap (λ (x : Option Pt). (emitted_if (state_in c.emit_if-first.result) x).next) (sym c.in-Some.is)

pub emit_point-last-requires : goal.emit_point-last-requires
emit_point-last-requires c = let whole = asked2 c.args.d c.args.ends c.args.q c.requires.ready c.requires.few c.requires.near c.emit_if-first.result c.emit_if-first.ensures c.emit_point-second.result (moved c) in record { ready = whole.0; few = whole.1 }
