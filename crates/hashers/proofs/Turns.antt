-- Hashes that are given one by one.
use Rattle.std.proofs.Common.{◌≡◌, ℕ, ◌+◌, ◌<◌, ◌≤◌, List, [], ◌∷◌, ◌++◌, length, map, take, get_or, set, sym, ap, ◌∙◌, arith}
use Rattle.std.proofs.lemmas.List.{get_or-map, get_or-take, length-take-le, map_more, take_more_set}

-- one more digest is given: the hash of the text that the message is
pub one_more : {M T : Type 0} (digest : M → List ℕ) (hash : T → List ℕ) (messages : List M) (texts : List T) (hashes digests : List (List ℕ)) (n k : ℕ)
    (text : T) (message : M) (found : List ℕ)
    → take n hashes ≡ map hash (take n texts) → k < n → n ≤ length texts → k < length digests → k < length messages
    → text ≡ get_or texts k text → found ≡ get_or hashes k found → hash text ≡ digest (get_or messages k message)
    → take k digests ≡ map digest (take k messages)
    → take (k + 1) (set digests k found) ≡ map digest (take (k + 1) messages)
one_more digest hash messages texts hashes digests n k text message found hashed inside fits room there here at is done =
    let both = ap (λ list. get_or list k found) hashed in
    let read : found ≡ hash text =
    at ∙ sym (get_or-take n hashes k found inside) ∙ both
    ∙ get_or-map hash (take n texts) k text found (omega (arith, length-take-le n texts fits))
    ∙ ap hash (get_or-take n texts k text inside ∙ sym here) in
    take_more_set digests k found room
    ∙ ap (λ list. list ++ found ∷ []) done
    ∙ ap (λ last. map digest (take k messages) ++ last ∷ []) (read ∙ is)
    ∙ sym (map_more digest messages k message there)
