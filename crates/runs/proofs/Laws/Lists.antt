-- Laws of lists of calls, for whatever calls a desk has.
--   after_all_append, answers_of_append      calls after calls: what there is after both, and what they answer
--   run_append, run_split                             they are a run exactly if the first are one, and the others are one from there on
--   along                                             what is so of no calls, and of one call more, is so of every run
-- Assumes nothing.
use mathlib.Core.Path.{◌≡◌, refl, ap}
use mathlib.Core.List.{List, [], ◌∷◌, ◌++◌}
use Prim.Native.Nat.{ℕ}
use Rattle.answer.specs.Answer.{Answer}
use Rattle.desk.specs.Answers.{Value}
use Rattle.runs.specs.Call.{Call}
use Rattle.desk.specs.Calls.{Calls}
use Rattle.runs.specs.Run.{State, made, after, Possible, Run, after_all, answers_of}

pub after_all_append : (calls : Calls) (s : State) (cs ds : List Call) → after_all calls s (cs ++ ds) ≡ after_all calls (after_all calls s cs) ds
unfolding after_all
after_all_append calls s [] ds = refl
after_all_append calls s (c ∷ cs) ds = after_all_append calls (after calls s c) cs ds

pub run_append : (calls : Calls) (n : ℕ) (s : State) (cs ds : List Call) → Run calls n s cs → Run calls n (after_all calls s cs) ds → Run calls n s (cs ++ ds)
unfolding Run after_all
run_append calls n s [] ds r q = q
run_append calls n s (c ∷ cs) ds r q = (r.0, run_append calls n (after calls s c) cs ds r.1 q)

pub run_split : (calls : Calls) (n : ℕ) (s : State) (cs ds : List Call) → Run calls n s (cs ++ ds) → Run calls n s cs × Run calls n (after_all calls s cs) ds
unfolding Run after_all
run_split calls n s [] ds r = (tt, r)
run_split calls n s (c ∷ cs) ds r = let rest = run_split calls n (after calls s c) cs ds r.1 in ((r.0, rest.0), rest.1)

pub answers_of_append : (calls : Calls) (s : State) (cs ds : List Call) → answers_of calls s (cs ++ ds) ≡ answers_of calls s cs ++ answers_of calls (after_all calls s cs) ds
unfolding answers_of after_all
answers_of_append calls s [] ds = refl
answers_of_append calls s (c ∷ cs) ds = ap (λ (l : List (Answer Value)). (made calls s c).answer ∷ l) (answers_of_append calls (after calls s c) cs ds)

-- what is so of no calls, and of one call more whenever it is so before it, is so of every run
pub along : (calls : Calls) (n : ℕ) (s : State) (P : List Call → State → Type 0)
    → P [] s
    → ((cs : List Call) (c : Call) → Run calls n s cs → P cs (after_all calls s cs) → Possible n (after_all calls s cs) c → P (cs ++ c ∷ []) (after calls (after_all calls s cs) c))
    → (cs : List Call) → Run calls n s cs → P cs (after_all calls s cs)
unfolding Run after_all
along calls n s P none one [] r = none
along calls n s P none one (c ∷ cs) r =
    along calls n (after calls s c) (λ ds t. P (c ∷ ds) t) (one [] c tt none r.0) (λ ds d q h possible. one (c ∷ ds) d (r.0, q) h possible) cs r.1
