-- What lies beyond the bytes is no text; else the bytes up to the end are the text, or what there is of it.
use Rattle.index.proofs.Hashing.{beyond, part_from, part_to, part_hash}
use borrow.Author.Rules.{rules}
use Rattle.index.proofs.hash_part.Goals as goal

pub returns-then-texts-start : goal.returns-then-texts-start
returns-then-texts-start c = search (rules, beyond)

pub slice_bounds-hash_text-count : goal.slice_bounds-hash_text-count
slice_bounds-hash_text-count c = search (rules, part_from)

pub slice_bounds-hash_text-start : goal.slice_bounds-hash_text-start
slice_bounds-hash_text-start c = search (rules, part_from)

pub slice_bounds-hash_text-end : goal.slice_bounds-hash_text-end
slice_bounds-hash_text-end c = search (rules, part_to)

pub returns : goal.returns
returns c = search (rules, part_hash)
