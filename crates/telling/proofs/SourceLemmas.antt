-- What holds of the bytes of a source.
use Rattle.std.proofs.Common.{◌≡◌, ◌∙◌, ℕ, List, [], Option, Some, None, sym, subst, append-nil}
use Rattle.std.proofs.lemmas.List.{append_cancel_left}
use Rattle.telling.specs.Told.{OfSource}

pub of_source : (left : Option (List ℕ)) (before after : List ℕ) (P Q : List ℕ → Type 0) → ((bytes : List ℕ) → P bytes → Q bytes) → OfSource left before after P → OfSource left before after Q
of_source None before after P Q f h = (tt, (h.1.0, h.1.1, f h.1.0 h.1.2))
of_source (Some bytes) before after P Q f h = (f bytes h.0, (h.1.0, h.1.1, f h.1.0 h.1.2))

-- of this text, which is all that it gave
pub of_text : (left : Option (List ℕ)) (before after text : List ℕ) (P : List ℕ → Type 0) → OfSource left before after (λ bytes. text ≡ bytes) → P text → OfSource left before after P
of_text left before after text P whole is = of_source left before after (λ bytes. text ≡ bytes) P (λ bytes same. subst P same is) whole

-- of all texts, where it gave nothing
pub of_nothing : (left : Option (List ℕ)) (before : List ℕ) (P : List ℕ → Type 0) → ((bytes : List ℕ) → P bytes) → OfSource left before before P
of_nothing None before P all = (tt, ([], sym (append-nil before), all []))
of_nothing (Some bytes) before P all = (all bytes, ([], sym (append-nil before), all []))

-- it gave the same bytes
pub of_both : (left : Option (List ℕ)) (before after : List ℕ) (P Q : List ℕ → Type 0) → OfSource left before after P → OfSource left before after Q → OfSource left before after (λ bytes. P bytes × Q bytes)
of_both None before after P Q h k = (tt, (h.1.0, h.1.1, (h.1.2, subst Q (append_cancel_left before k.1.0 h.1.0 (sym k.1.1 ∙ h.1.1)) k.1.2)))
of_both (Some bytes) before after P Q h k = ((h.0, k.0), (h.1.0, h.1.1, (h.1.2, subst Q (append_cancel_left before k.1.0 h.1.0 (sym k.1.1 ∙ h.1.1)) k.1.2)))
