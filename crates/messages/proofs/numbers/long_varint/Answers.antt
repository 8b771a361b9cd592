use borrow.Author.Rules.{rules}
use Rattle.messages.proofs.Reading.{long_start, long_cut, long_ends, long_tenth, long_over, long_turn, product_fits, sum_fits, low_product_fits, low_sum_fits, unit_fits, last_product_fits, last_sum_fits}
use Rattle.messages.proofs.numbers.long_varint.Goals as goal

pub loop-i-init : goal.loop-i-init
loop-i-init c = search (rules, long_start)

pub returns-in_err-b : goal.returns-in_err-b
returns-in_err-b c = search (rules, long_cut)

pub overflow_mul-result : goal.overflow_mul-result
overflow_mul-result c = search (rules, product_fits)

pub overflow_add-result : goal.overflow_add-result
overflow_add-result c = search (rules, sum_fits)

pub returns-then-b-lt-MORE : goal.returns-then-b-lt-MORE
returns-then-b-lt-MORE c = search (rules, long_ends)

pub overflow_mul-n : goal.overflow_mul-n
overflow_mul-n c = search (rules, low_product_fits)

pub overflow_add-n : goal.overflow_add-n
overflow_add-n c = search (rules, low_sum_fits)

pub overflow_mul-unit : goal.overflow_mul-unit
overflow_mul-unit c = search (rules, unit_fits)

pub loop-i-preserved : goal.loop-i-preserved
loop-i-preserved c = search (rules, long_turn)

pub returns-in_err-tenth : goal.returns-in_err-tenth
returns-in_err-tenth c = search (rules, long_cut)

pub overflow_mul-result-then-tenth-lt-TENTH : goal.overflow_mul-result-then-tenth-lt-TENTH
overflow_mul-result-then-tenth-lt-TENTH c = search (rules, last_product_fits)

pub overflow_add-result-then-tenth-lt-TENTH : goal.overflow_add-result-then-tenth-lt-TENTH
overflow_add-result-then-tenth-lt-TENTH c = search (rules, last_sum_fits)

pub returns-then-tenth-lt-TENTH : goal.returns-then-tenth-lt-TENTH
returns-then-tenth-lt-TENTH c = search (rules, long_tenth)

pub returns : goal.returns
returns c = search (rules, long_over)
