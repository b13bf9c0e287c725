-- The mask of an axis's warnings: bits 0 to 6 are FD FQ FS FT FB FP FE, the warnings of places 1 to 7.
-- WR has no bit: "WR is active exactly when the axis has no reference."
use Rattle.std.specs.Prelude.{Bool, not, List, ℕ, ◌%◌}
use Rattle.flags.specs.Flags.{active as activeOf}
use Rattle.axis.specs.declared.Axis.{Axis}

-- the eight flags
abbrev pub active : Axis → List Bool
active a = activeOf a.warnings (not a.reference)

-- "`clear` ... clears all but FD and WR"
abbrev pub only_fd : ℕ → ℕ
only_fd m = m % 2
