-- Each way of the code is a way of `digit`, and its sums fit since the value so far is below its unit.
use borrow.Author.Rules.{rules}
use Rattle.scanning.proofs.Digits.{low_mul, low_add, low_is, high_mul, high_add, high_is, last_mul, last_add, last_is, bad_is}
use Rattle.scanning.proofs.digit.next_digit.Goals as goal

pub overflow_mul-result : goal.overflow_mul-result
overflow_mul-result c = search (rules, low_mul)

pub overflow_add-result : goal.overflow_add-result
overflow_add-result c = search (rules, low_add)

pub returns-then-n-lt-MORE : goal.returns-then-n-lt-MORE
returns-then-n-lt-MORE c = search (rules, low_is)

pub overflow_mul-result-then-i-lt-BEFORE_LAST : goal.overflow_mul-result-then-i-lt-BEFORE_LAST
overflow_mul-result-then-i-lt-BEFORE_LAST c = search (rules, high_mul)

pub overflow_add-result-then-i-lt-BEFORE_LAST : goal.overflow_add-result-then-i-lt-BEFORE_LAST
overflow_add-result-then-i-lt-BEFORE_LAST c = search (rules, high_add)

pub returns-then-i-lt-BEFORE_LAST : goal.returns-then-i-lt-BEFORE_LAST
returns-then-i-lt-BEFORE_LAST c = search (rules, high_is)

pub overflow_mul-result-then-n-lt-TENTH : goal.overflow_mul-result-then-n-lt-TENTH
overflow_mul-result-then-n-lt-TENTH c = search (rules, last_mul)

pub overflow_add-result-then-n-lt-TENTH : goal.overflow_add-result-then-n-lt-TENTH
overflow_add-result-then-n-lt-TENTH c = search (rules, last_add)

pub returns-then-n-lt-TENTH : goal.returns-then-n-lt-TENTH
returns-then-n-lt-TENTH c = search (rules, last_is)

pub returns : goal.returns
returns c = search (rules, bad_is)
