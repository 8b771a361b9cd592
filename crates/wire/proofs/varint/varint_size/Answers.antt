-- Each limit of the ladder is what so many groups of seven bits hold.
use native.Mathlib.Omega.{arith}
use mathlib.Core.Path.{sym, ap}
use lib.ListN.{length}
use Rattle.wire.proofs.Varints.{varint_one, varint_size}
use Rattle.wire.proofs.varint.varint_size.Goals as goal

pub returns-then-n-lt128 : goal.returns-then-n-lt128
returns-then-n-lt128 c = sym (ap length (varint_one _ (omega arith)))

pub returns-then-n-lt16384 : goal.returns-then-n-lt16384
returns-then-n-lt16384 c = varint_size 1 _ (omega arith) (omega arith) (omega arith)

pub returns-then-n-lt2097152 : goal.returns-then-n-lt2097152
returns-then-n-lt2097152 c = varint_size 2 _ (omega arith) (omega arith) (omega arith)

pub returns-then-n-lt268435456 : goal.returns-then-n-lt268435456
returns-then-n-lt268435456 c = varint_size 3 _ (omega arith) (omega arith) (omega arith)

pub returns-then-n-lt34359738368 : goal.returns-then-n-lt34359738368
returns-then-n-lt34359738368 c = varint_size 4 _ (omega arith) (omega arith) (omega arith)

pub returns-then-n-lt4398046511104 : goal.returns-then-n-lt4398046511104
returns-then-n-lt4398046511104 c = varint_size 5 _ (omega arith) (omega arith) (omega arith)

pub returns-then-n-lt562949953421312 : goal.returns-then-n-lt562949953421312
returns-then-n-lt562949953421312 c = varint_size 6 _ (omega arith) (omega arith) (omega arith)

pub returns-then-n-lt72057594037927936 : goal.returns-then-n-lt72057594037927936
returns-then-n-lt72057594037927936 c = varint_size 7 _ (omega arith) (omega arith) (omega arith)

pub returns-then-n-lt9223372036854775808 : goal.returns-then-n-lt9223372036854775808
returns-then-n-lt9223372036854775808 c = varint_size 8 _ (omega arith) (omega arith) (omega arith)

pub returns : goal.returns
returns c = varint_size 9 _ (omega arith) (omega arith) (omega arith)
