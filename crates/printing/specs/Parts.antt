-- What the private functions of src/line.rt write. Nobody need believe it: the public promises are those of specs/Printing.antt.
-- Assumes nothing.
use Rattle.std.specs.Prelude.{ℕ, List, ◌++◌}
use Rattle.text.specs.Text.{text}
use Rattle.text.specs.Decimal.{decimal}

-- `value_text` for a take, up to what was waited for
unfoldable pub taken_text : (turn entries applied : ℕ) → List ℕ
taken_text turn entries applied = text "taken " ++ decimal turn ++ text " " ++ decimal entries ++ text " " ++ decimal applied ++ text " "
