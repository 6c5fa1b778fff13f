-- The numbers of requests, from state to state of a chain.
use Rattle.std.proofs.Common.{◌≤◌, ℕ, List, [], ◌∷◌, ◌++◌, arith, inl, inr, sym, subst}
use Rattle.std.proofs.lemmas.List.Elements.{All-append, All-cons, All-drop, All-head, All-nil, All-tail}
use Rattle.std.specs.List.{All}
use Rattle.commands.specs.declared.command.Command.TheVariants as command
use Rattle.commands.specs.declared.command.Control.TheVariants as control
use Rattle.commands.specs.declared.command.Heard.{Heard}
use Rattle.commands.specs.declared.command.Heard.TheVariants as heard
use Rattle.executor.specs.Chains.{IsReturned, Chain, extended, states}
use Rattle.requests.specs.declared.request.Batch.{Batch}
use Rattle.session.specs.Answers.{Answers}
use Rattle.tpcc_model.specs.Serial.{State}

-- the next request of each state has a number from 1 on
abbrev pub IsNumbered : State → Type 0
IsNumbered state = 1 ≤ state.next

abbrev pub AreNumbered : Chain → Type 0
AreNumbered chain = All IsNumbered chain.earlier × IsNumbered chain.present

all-front : (xs ys : List State) → All IsNumbered (xs ++ ys) → All IsNumbered xs
all-front [] ys all = All-nil IsNumbered
all-front (x ∷ xs) ys all = All-cons IsNumbered x xs (All-head IsNumbered x (xs ++ ys) all) (all-front xs ys (All-tail IsNumbered x (xs ++ ys) all))

all-last : (xs : List State) (y : State) → All IsNumbered (xs ++ y ∷ []) → IsNumbered y
all-last [] y all = All-head IsNumbered y [] all
all-last (x ∷ xs) y all = all-last xs y (All-tail IsNumbered x (xs ++ y ∷ []) all)

one : (s : State) → IsNumbered s → All IsNumbered (s ∷ [])
one s is = All-cons IsNumbered s [] is (All-nil IsNumbered)

numbered-extended : (chain : Chain) (batch : Batch) → AreNumbered chain → AreNumbered (extended chain batch)
numbered-extended chain batch h =
    let low = h.1 in
    (All-append IsNumbered chain.earlier (chain.present ∷ []) h.0 (one chain.present h.1), omega (arith, low))

numbered-returned : (n : ℕ) (old new : Chain) → IsReturned n old new → AreNumbered old → AreNumbered new
numbered-returned n old new back h =
    let all : All IsNumbered (states old) = All-append IsNumbered old.earlier (old.present ∷ []) h.0 (one old.present h.1) in
    let kept = all-front (states new) back.gone.0 (subst (All IsNumbered) back.gone.1 all) in
    (all-front new.earlier (new.present ∷ []) kept, all-last new.earlier new.present kept)

-- so it stays
pub numbered-after : (c : Heard) (old new : Chain) (text : List ℕ) → AreNumbered old → Answers c old new text → AreNumbered new
numbered-after (heard.Command (command.Batch batch)) old new text h (inl (admitted, chain, is)) = subst AreNumbered (sym chain) (numbered-extended old batch h)
numbered-after (heard.Command (command.Batch batch)) old new text h (inr (e, why, chain, is)) = subst AreNumbered (sym chain) h
numbered-after (heard.Command (command.Control control.Commit)) old new text h (inl (n, at, chain, is)) = subst AreNumbered (sym chain) (All-drop IsNumbered 1 old.earlier h.0, h.1)
numbered-after (heard.Command (command.Control control.Commit)) old new text h (inr (none, (e, why, chain, is))) = subst AreNumbered (sym chain) h
numbered-after (heard.Command (command.Control (control.RollbackTo n))) old new text h (inl (back, is)) = numbered-returned n old new back h
numbered-after (heard.Command (command.Control (control.RollbackTo n))) old new text h (inr (none, (e, why, chain, is))) = subst AreNumbered (sym chain) h
numbered-after (heard.Command (command.Control control.State)) old new text h (chain, is) = subst AreNumbered (sym chain) h
numbered-after (heard.Command (command.Control control.At)) old new text h (chain, is) = subst AreNumbered (sym chain) h
numbered-after (heard.Command (command.Control control.Image)) old new text h (inl (chain, is)) = subst AreNumbered (sym chain) h
numbered-after (heard.Command (command.Control control.Image)) old new text h (inr (e, why, chain, is)) = subst AreNumbered (sym chain) h
numbered-after (heard.Fault f) old new text h (chain, is) = subst AreNumbered (sym chain) h
