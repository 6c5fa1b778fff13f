-- Replies that are put into the slots of their places.
use Rattle.std.proofs.Common.{◌≡◌, inl, inr, ℕ, suc, ◌+◌, ◌<◌, true, false, cond, List, [], ◌∷◌, ◌++◌, length, get_or, set, Option, Some, None, refl, sym, ap, subst, ◌∙◌, append_assoc, map, arith}
use Rattle.std.proofs.lemmas.Bool.{cases_Bool, cond-false, cond-true}
use Rattle.std.proofs.lemmas.Bool.Decides.{nat_tests}
use Rattle.std.proofs.lemmas.List.{get_or-map, get_or-set_same, get_or-set_other, length-map, length-set}
use Rattle.std.specs.FinMap.{find, nat_cmp-IsAntisymmetric}
use Rattle.std.specs.List.{All, AllPairs}
use Rattle.std.specs.Option.{option_or}
use Rattle.std.specs.Ordering.{eq_by_cmp, nat_cmp}
use Rattle.serializability.specs.Footprints.{Has}
use Rattle.serializability.proofs.Changes.{same_key}
use Rattle.requests.specs.declared.reply.Reply.{Reply}
use Rattle.workers.specs.declared.job.Done.{Done}
use Rattle.executor.specs.Slots.{Awaits, HaveAlso, Slots, reply_at, with_each}

or_none : {X : Type 0} (o : Option X) → option_or o None ≡ o
or_none None = refl
or_none (Some x) = refl

option_or-assoc : {X : Type 0} (a b c : Option X) → option_or (option_or a b) c ≡ option_or a (option_or b c)
option_or-assoc None b c = refl
option_or-assoc (Some x) b c = refl

find-append : {X : Type 0} (q : ℕ) (es fs : List (ℕ × X)) → find nat_cmp q (es ++ fs) ≡ option_or (find nat_cmp q es) (find nat_cmp q fs)
find-append q [] fs = refl
find-append q (e ∷ es) fs =
    elim (eq_by_cmp nat_cmp q e.0) as (λ b. cond b (Some e.1) (find nat_cmp q (es ++ fs)) ≡ option_or (cond b (Some e.1) (find nat_cmp q es)) (find nat_cmp q fs)) [ true ↦ refl | false ↦ find-append q es fs ]

-- ---- one outcome
-- its reply, with the number of its request
abbrev numbered : ℕ → Done → ℕ × Reply
numbered first done = (first + done.place, done.reply)

-- the slots with its reply
abbrev with_one : Done → Slots → Slots
with_one done slots = set slots done.place (Some done.reply)

-- its slot, which was empty, has its reply, and the others have what they had
one_more : (first : ℕ) (slots : Slots) (done : Done) (place : ℕ) → place < length slots → Awaits slots done.place
    → reply_at (with_one done slots) place ≡ option_or (reply_at slots place) (find nat_cmp (first + place) (numbered first done ∷ []))
one_more first slots done place below awaited =
    elim (cases_Bool (eq_by_cmp nat_cmp (first + place) (first + done.place))) [
      | inl t ↦
          let here = same_key nat_cmp-IsAntisymmetric (first + place) (first + done.place) t in
          let same : place ≡ done.place = omega (arith, here) in
          ap (reply_at (with_one done slots)) same
          ∙ get_or-set_same slots done.place (Some done.reply) None awaited.0
          ∙ sym (ap (λ o. option_or o (find nat_cmp (first + place) (numbered first done ∷ []))) (ap (reply_at slots) same ∙ awaited.1) ∙ cond-true (eq_by_cmp nat_cmp (first + place) (first + done.place)) (Some done.reply) None t)
      | inr f ↦
          get_or-set_other slots done.place place (Some done.reply) None (λ same.
          let t : eq_by_cmp nat_cmp (first + place) (first + done.place) ≡ true = grind (arith, nat_tests, same) in
          let no : true ≡ false = sym t ∙ f in
          cc)
          ∙ sym (ap (option_or (reply_at slots place)) (cond-false (eq_by_cmp nat_cmp (first + place) (first + done.place)) (Some done.reply) None f) ∙ or_none (reply_at slots place))
    ]

-- a reply for a place behind is awaited still
awaits_on : (slots : Slots) (done : Done) (later : ℕ) → done.place < later → Awaits slots later → Awaits (with_one done slots) later
awaits_on slots done later low awaited = (
  subst (λ n. later < n) (sym (length-set slots done.place (Some done.reply))) awaited.0,
  get_or-set_other slots done.place later (Some done.reply) None (λ same. omega (arith, same, low)) ∙ awaited.1,
)

-- ---- the outcomes of a level
-- they rise
abbrev Rise : List Done → Type 0
Rise outcomes = AllPairs (λ place later. place < later) (map (λ done. done.place) outcomes)

rise_behind : (done : Done) (rest : List Done) → Rise (done ∷ rest) → Rise rest
rise_behind done rest rise i j d low below = rise (suc i) (suc j) d (omega (arith, low)) (omega (arith, below))

awaited_behind : (slots : Slots) (done : Done) (rest : List Done) → Rise (done ∷ rest) → All (λ one. Awaits slots one.place) (done ∷ rest) → All (λ one. Awaits (with_one done slots) one.place) rest
awaited_behind slots done rest rise awaited k d below =
    let counted = length-map rest (λ (one : Done). one.place) in
    let low : done.place < get_or (map (λ (one : Done). one.place) rest) k d.place = rise 0 (suc k) d.place (omega arith) (omega (arith, below, counted)) in
    let at = get_or-map (λ (one : Done). one.place) rest k d d.place below in
    awaits_on slots done (get_or rest k d).place (omega (arith, low, at)) (awaited (suc k) d (omega (arith, below)))

-- where their slots were empty, these have their replies
pub have_each : (first : ℕ) (outcomes : List Done) (slots : Slots) → Rise outcomes → All (λ done. Awaits slots done.place) outcomes
    → HaveAlso first (map (λ done. (first + done.place, done.reply)) outcomes) slots (with_each outcomes slots)
have_each first [] slots rise awaited = record { size = refl; replies = λ place below. sym (or_none (reply_at slots place)) }
have_each first (done ∷ rest) slots rise awaited =
    let behind = have_each first rest (with_one done slots) (rise_behind done rest rise) (awaited_behind slots done rest rise awaited) in
    let many = length-set slots done.place (Some done.reply) in
    record {
      size = behind.size ∙ many;
      replies = λ place below.
          let told = find nat_cmp (first + place) (map (numbered first) rest) in
          behind.replies place (omega (arith, below, many))
          ∙ ap (λ o. option_or o told) (one_more first slots done place below (awaited 0 done (omega arith)))
          ∙ option_or-assoc (reply_at slots place) (find nat_cmp (first + place) (numbered first done ∷ [])) told
          ∙ ap (option_or (reply_at slots place)) (sym (find-append (first + place) (numbered first done ∷ []) (map (numbered first) rest)));
    }

-- a place that isn't one of these has no reply among theirs
not_told : (first place : ℕ) (outcomes : List Done) → (Has (map (λ done. done.place) outcomes) place → ⊥) → find nat_cmp (first + place) (map (λ done. (first + done.place, done.reply)) outcomes) ≡ None
not_told first place [] apart = refl
not_told first place (one ∷ outcomes) apart = elim (cases_Bool (eq_by_cmp nat_cmp (first + place) (first + one.place))) [
  | inl t ↦ absurd (apart (inl (let here = same_key nat_cmp-IsAntisymmetric (first + place) (first + one.place) t in let same : one.place ≡ place = omega (arith, here) in same)))
  | inr f ↦
      cond-false (eq_by_cmp nat_cmp (first + place) (first + one.place)) (Some one.reply) (find nat_cmp (first + place) (map (λ done. (first + done.place, done.reply)) outcomes)) f
      ∙ not_told first place outcomes (λ has. apart (inr has))
]

-- the replies to all others are awaited still
pub awaits_others : (first : ℕ) (places : List ℕ) (outcomes : List Done) (old new : Slots) → map (λ done. done.place) outcomes ≡ places
    → HaveAlso first (map (λ done. (first + done.place, done.reply)) outcomes) old new → (place : ℕ) → (Has places place → ⊥) → Awaits old place → Awaits new place
awaits_others first places outcomes old new are each place apart awaited = (
  subst (λ n. place < n) (sym each.size) awaited.0,
  each.replies place awaited.0
      ∙ ap (λ o. option_or o (find nat_cmp (first + place) (map (λ (done : Done). (first + done.place, done.reply)) outcomes))) awaited.1
      ∙ not_told first place outcomes (λ has. apart (subst (λ ps. Has ps place) are has)),
)

-- ---- level after level
-- with the replies that are left the slots come to have all that are told
pub record ComeToHave (first : ℕ) (told left : List (ℕ × Reply)) (old now : Slots) : Type 0 where
  pub size : length now ≡ length old
  pub replies : (place : ℕ) → place < length old → option_or (reply_at now place) (find nat_cmp (first + place) left) ≡ option_or (reply_at old place) (find nat_cmp (first + place) told)

pub some_more : (first : ℕ) (told some left : List (ℕ × Reply)) (old now new : Slots) → HaveAlso first some now new → ComeToHave first told (some ++ left) old now → ComeToHave first told left old new
some_more first told some left old now new each rest = record {
  size = each.size ∙ rest.size;
  replies = λ place below.
      let there : place < length now = omega (arith, below, rest.size) in
      let known = find nat_cmp (first + place) in
      ap (λ (o : Option Reply). option_or o (known left)) (each.replies place there)
      ∙ option_or-assoc (reply_at now place) (known some) (known left)
      ∙ ap (option_or (reply_at now place)) (sym (find-append (first + place) some left))
      ∙ rest.replies place below;
}

-- ---- changes
-- those of one outcome more are kept
pub kept_more : {X Y : Type 0} (f : X → Y) (made more whole : List Y) (before left : List X) (x : X) → more ≡ made ++ f x ∷ [] → before ≡ x ∷ left → made ++ map f before ≡ whole → more ++ map f left ≡ whole
kept_more f made more whole before left x pushed is so_far =
    ap (λ ys. ys ++ map f left) pushed ∙ append_assoc made (f x ∷ []) (map f left) ∙ ap (λ xs. made ++ map f xs) (sym is) ∙ so_far
