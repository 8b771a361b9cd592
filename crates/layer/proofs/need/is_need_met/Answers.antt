use Rattle.layer.proofs.Knowing.{reckons_start, reckons_past, need_asked, reckons_on, reckons_done}
use borrow.Author.Rules.{rules}
use Rattle.layer.proofs.need.is_need_met.Goals as goal

pub loop-i-init : goal.loop-i-init
loop-i-init c = search (rules, reckons_start)

pub returns-then-not-fits_in : goal.returns-then-not-fits_in
returns-then-not-fits_in c = search (rules, reckons_past)

pub need_of-u-requires : goal.need_of-u-requires
need_of-u-requires c =
    need_asked _ _ _ _ _ _ _ _ _ c.requires _ _ c.loop-i.invariant c.loop-i-test.true _ c.fits_in.ensures c.if-not-fits_in.false-raw

pub loop-i-preserved : goal.loop-i-preserved
loop-i-preserved c = search (rules, reckons_on)

pub returns : goal.returns
returns c = search (rules, reckons_done)
