-- When what is printed says that the schedule is none, or is none from some line on: the exit status 1 of `./register play`. 01, "The
-- program `rounds`": "it prints `too long` alone", "`bad start` alone", "prints its step number and `bad line` and ends the run".
-- Assumes nothing.
use Rattle.std.specs.Prelude.{ℕ, ◌-◌, Bool, true, false, ◌&&◌, ◌||◌, List, [], ◌∷◌, eqb, leb, length, drop}
use Rattle.text.specs.Text.{text}

-- a text begins with these bytes
abbrev pub begins_with : List ℕ → List ℕ → Bool
begins_with [] s = true
begins_with (b ∷ bs) [] = false
begins_with (b ∷ bs) (x ∷ s) = eqb x b && begins_with bs s

-- a text ends in these bytes
unfoldable pub ends_in : List ℕ → List ℕ → Bool
ends_in bs s = leb (length bs) (length s) && begins_with bs (drop (length s - length bs) s)

unfoldable pub is_refused : List ℕ → Bool
is_refused printed = (ends_in (text "too long\n") printed || ends_in (text "bad start\n") printed) || ends_in (text " bad line\n") printed
