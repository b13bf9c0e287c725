-- Warnings raised and removed by motor reports, in the mask of an axis's warnings.
-- Bits 0 to 6 are FD FQ FS FT FB FP FE, the warnings of places 1 to 7.
use Rattle.std.specs.Prelude.{Bool, cond, ◌&&◌, ℕ, ◌+◌, ◌-◌, ◌/◌, ◌%◌, ◌^◌, eqb, leb}
use Rattle.units.specs.Units.{place}
use Rattle.axis.specs.Record.{with_warnings}
use Rattle.settings.specs.Types.{Number}
use Rattle.axis.specs.declared.Axis.{Axis}

-- "warning raised, one of the first seven by its place 1 to 7"
abbrev pub is_warning : Number → Bool
is_warning n = leb 1 (place n.0) && leb (place n.0) 7

-- the mask with the warning of place k raised
unfoldable pub raise : ℕ → ℕ → ℕ
raise k m = cond (eqb (m / 2 ^ (k - 1) % 2) 1) m (m + 2 ^ (k - 1))

unfoldable pub raised : Number → Axis → Axis
raised n a = cond (is_warning n) (with_warnings (raise (place n.0) a.warnings) a) a

-- "5 removes FD, if present"
abbrev pub without_fd : ℕ → ℕ
without_fd m = m - m % 2
