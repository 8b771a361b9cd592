-- The number of the C interface, which both archives and the header (BP_VERSION) have. It is raised by one with every change of a declaration of the header
-- or of what one means; a declaration more leaves it (tests/c/interface holds the header to that).
use Rattle.std.specs.Prelude.{ℕ}

abbrev pub interface_version : ℕ
interface_version = 7
