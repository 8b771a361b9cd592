-- Document 02, request (ix), as the program prints it: the four counts of a job and the vertices in its words, each on a line with its name.
use Rattle.std.specs.Prelude.{ℕ, List, [], ◌∷◌, ◌++◌}
use Rattle.printed.specs.Decimal.{ended}
use Rattle.printed.specs.Printed.{newline}

-- "taken "
abbrev pub taken_head : List ℕ
taken_head = 116 ∷ 97 ∷ 107 ∷ 101 ∷ 110 ∷ 32 ∷ []

-- "boundary "
abbrev pub boundary_head : List ℕ
boundary_head = 98 ∷ 111 ∷ 117 ∷ 110 ∷ 100 ∷ 97 ∷ 114 ∷ 121 ∷ 32 ∷ []

-- "skipped "
abbrev pub skipped_head : List ℕ
skipped_head = 115 ∷ 107 ∷ 105 ∷ 112 ∷ 112 ∷ 101 ∷ 100 ∷ 32 ∷ []

-- "taken out "
abbrev pub out_head : List ℕ
out_head = 116 ∷ 97 ∷ 107 ∷ 101 ∷ 110 ∷ 32 ∷ 111 ∷ 117 ∷ 116 ∷ 32 ∷ []

-- "vertices "
abbrev pub vertices_head : List ℕ
vertices_head = 118 ∷ 101 ∷ 114 ∷ 116 ∷ 105 ∷ 99 ∷ 101 ∷ 115 ∷ 32 ∷ []

-- a number on a line, behind its name
abbrev pub headed : List ℕ → ℕ → List ℕ
headed head n = head ++ ended n newline

abbrev pub losses_text : ℕ → ℕ → ℕ → ℕ → ℕ → List ℕ
losses_text taken boundary skipped out vertices =
    headed taken_head taken ++ headed boundary_head boundary ++ headed skipped_head skipped ++ headed out_head out ++ headed vertices_head vertices

-- what a text is lent for: the five names have 42 bytes, and a number at most twenty digits and its end
abbrev pub losses_room : ℕ
losses_room = 147
