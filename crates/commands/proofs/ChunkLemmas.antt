-- Bytes that were pulled, one after the other.
use Rattle.std.proofs.Common.{◌≡◌, ◌∙◌, ◌<◌, ◌+◌, ℕ, List, [], ◌∷◌, ◌++◌, drop, get_or, length, take, Option, Some, None, sym, ap, arith}
use Rattle.std.proofs.lemmas.List.{drop_more, get_or-take, length-take}
use Rattle.std.specs.Io.KnownBytes.{Consumes, Keeps, prepend_known}

-- a byte at the front
consumes-front : (b : ℕ) (xs ys : List ℕ) (k : Option (List ℕ)) → xs ≡ b ∷ ys → Consumes (prepend_known xs k) (prepend_known ys k) (b ∷ [])
consumes-front b xs ys None e = tt
consumes-front b xs ys (Some zs) e = ap (λ (l : List ℕ). l ++ zs) e

-- the next of those that were pulled
pub next-pulled : (at filled : ℕ) (buffer : List ℕ) (k : Option (List ℕ)) → at < filled → at < length buffer
    → Consumes (prepend_known (drop at (take filled buffer)) k) (prepend_known (drop (at + 1) (take filled buffer)) k) (get_or buffer at 0 ∷ [])
next-pulled at filled buffer k within there =
    let size = length-take filled buffer in
    let more : drop at (take filled buffer) ≡ get_or (take filled buffer) at 0 ∷ drop (at + 1) (take filled buffer) = drop_more (take filled buffer) at 0 (omega (arith, size)) in
    consumes-front (get_or buffer at 0) (drop at (take filled buffer)) (drop (at + 1) (take filled buffer)) k
    (more ∙ ap (λ b. b ∷ drop (at + 1) (take filled buffer)) (get_or-take filled buffer at 0 within))

-- the same, where more were pulled first
pub kept-consumes : (a b c : Option (List ℕ)) (bs : List ℕ) → Keeps a b → Consumes b c bs → Consumes a c bs
kept-consumes None b c bs k h = tt
kept-consumes (Some xs) None c bs k h = absurd k
kept-consumes (Some xs) (Some ys) None bs k h = h
kept-consumes (Some xs) (Some ys) (Some zs) bs k h = sym k ∙ h
