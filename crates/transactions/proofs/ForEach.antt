-- A stage for each of a list, as a loop does it.
use Rattle.std.proofs.Common.{◌≡◌, ◌<◌, ◌+◌, ℕ, suc, List, [], ◌∷◌, ◌++◌, map, take, drop, get_or, length, Result, Ok, Err, ap, sym, ◌∙◌}
use Rattle.std.proofs.lemmas.List.{take_more, take-append-drop, map-append}
use Rattle.std.proofs.Math.Seq.{drop-cons}
use Rattle.requests.specs.declared.reply.RequestRefusal.{RequestRefusal}
use Rattle.tpcc_model.specs.Staging.{◌>>=◌, for_each}
use Rattle.tpcc_laws.proofs.Doing.{ok-by}

module _ {A B : Type 0} (stage : A → Result B RequestRefusal) where
  -- one more
  for_each-push : (xs : List A) (x : A) (ys : List B) (y : B) → for_each stage xs ≡ Ok ys → stage x ≡ Ok y → for_each stage (xs ++ x ∷ []) ≡ Ok (ys ++ y ∷ [])
  for_each-push [] x ys y done one = (let none : [] ≡ ys = cc in ap (λ r. r >>= λ z. Ok (z ∷ [])) one ∙ ap (λ zs. Ok (zs ++ y ∷ [])) none)
  for_each-push (z ∷ zs) x ys y done one =
      ok-by (stage z) _ _ done λ a ea ha.
      ok-by (for_each stage zs) _ _ ha λ more em hm.
      let is : a ∷ more ≡ ys = cc in
      ap (λ r. r >>= λ b. for_each stage (zs ++ x ∷ []) >>= λ bs. Ok (b ∷ bs)) ea ∙ ap (λ r. r >>= λ bs. Ok (a ∷ bs)) (for_each-push zs x more y em one) ∙ ap (λ bs. Ok (bs ++ y ∷ [])) is

  -- the first refusal
  for_each-refused : (xs : List A) (x : A) (rest : List A) (ys : List B) (why : RequestRefusal) → for_each stage xs ≡ Ok ys → stage x ≡ Err why → for_each stage (xs ++ x ∷ rest) ≡ Err why
  for_each-refused [] x rest ys why done one = ap (λ r. r >>= λ b. for_each stage rest >>= λ bs. Ok (b ∷ bs)) one
  for_each-refused (z ∷ zs) x rest ys why done one =
      ok-by (stage z) _ _ done λ a ea ha.
      ok-by (for_each stage zs) _ _ ha λ more em hm.
      ap (λ r. r >>= λ b. for_each stage (zs ++ x ∷ rest) >>= λ bs. Ok (b ∷ bs)) ea ∙ ap (λ r. r >>= λ bs. Ok (a ∷ bs)) (for_each-refused zs x rest more why em one)

  module _ (xs : List A) (i : ℕ) (x : A) (below : i < length xs) (is : x ≡ get_or xs i x) where
    -- a turn of the loop
    pub for_each_more : {Y : Type 0} (view : Y → B) (ys : List Y) (y : Y) → for_each stage (take i xs) ≡ Ok (map view ys) → Ok (view y) ≡ stage x → for_each stage (take (i + 1) xs) ≡ Ok (map view (ys ++ y ∷ []))
    for_each_more view ys y done one =
        ap (for_each stage) (take_more xs i x below ∙ ap (λ z. take i xs ++ z ∷ []) (sym is))
        ∙ for_each-push (take i xs) x (map view ys) (view y) done (sym one) ∙ ap Ok (sym (map-append view ys (y ∷ [])))

    -- the turn that ends it
    pub for_each_stop : (ys : List B) (why : RequestRefusal) → for_each stage (take i xs) ≡ Ok ys → Err why ≡ stage x → for_each stage xs ≡ Err why
    for_each_stop ys why done one =
        ap (for_each stage) (sym (take-append-drop i xs) ∙ ap (λ z. take i xs ++ z) (drop-cons xs i x below ∙ ap (λ z. z ∷ drop (suc i) xs) (sym is)))
        ∙ for_each-refused (take i xs) x (drop (suc i) xs) ys why done (sym one)
