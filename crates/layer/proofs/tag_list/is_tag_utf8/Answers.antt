-- The five words name parts of the bytes. The key's part is asked, and then the text's, where there is one.
use Rattle.layer.proofs.Placing.{key_read, text_read}
use Rattle.layer.proofs.Scanning.{key_ill, no_text, text_told}
use borrow.Author.Rules.{rules}
use Rattle.layer.proofs.tag_list.is_tag_utf8.Goals as goal

pub slice_bounds-is_utf8-end : goal.slice_bounds-is_utf8-end
slice_bounds-is_utf8-end c = key_read c.args.bytes.now c.args.t.now 0 c.requires _ _ c.wide-a.ensures c.wide.ensures

pub returns-then-not-is_utf8 : goal.returns-then-not-is_utf8
returns-then-not-is_utf8 c = search (rules, key_ill)

pub returns-then-t-ne-TEXT : goal.returns-then-t-ne-TEXT
returns-then-t-ne-TEXT c = search (rules, no_text)

pub slice_bounds-is_utf8-end-2 : goal.slice_bounds-is_utf8-end-2
slice_bounds-is_utf8-end-2 c = text_read c.args.bytes.now c.args.t.now 0 c.requires (search rules) _ _ c.wide-c.ensures c.wide-2.ensures

pub returns : goal.returns
returns c = search (rules, text_told)
