-- The fronts of the two lists are shown, or ROOM.
use lib.ListN.{take}
use Rattle.tiles.proofs.Telling.{as_shown, show_room, show_fits}
use borrow.Author.Rules.{rules}
use Rattle.tiles.proofs.show.Goals as goal

pub returns-then-k-eq0 : goal.returns-then-k-eq0
returns-then-k-eq0 c =
    show_room _ _ c.args.text.now _ _ (as_shown c.first_words-os.result.now (take c.args.n c.args.outcomes.now) c.first_bytes-bs.result.now (take c.args.used c.args.out.now) c.args.text.now _ _ c.first_words-os.ensures c.first_bytes-bs.ensures c.show_tile-k.ensures) _ _ c.requires (search rules) c.show_refusal.ensures

pub returns : goal.returns
returns c =
    show_fits _ _ c.args.text.now _ _ (as_shown c.first_words-os.result.now (take c.args.n c.args.outcomes.now) c.first_bytes-bs.result.now (take c.args.used c.args.out.now) c.args.text.now _ _ c.first_words-os.ensures c.first_bytes-bs.ensures c.show_tile-k.ensures) (search rules)
