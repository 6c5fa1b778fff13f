-- Equal tokens cover the same, or the search finds a collision.
use Rattle.std.proofs.Common.{◌≡◌, ◌⊎◌, inl, inr, ℕ, List, ◌∷◌, ◌++◌, codes, length, append_assoc, Option, Some, None, find, zip, refl, sym, ◌∙◌, arith}
use Rattle.std.specs.List.{AllByRecursion}
use Rattle.std.proofs.lemmas.List.Elements.{recursion_from_All}
use Rattle.std.specs.Prelude.{IsSomeAnd}
use Rattle.std.proofs.lemmas.List.{append_cancel_left}
use Rattle.sha2.proofs.Facts256.{length-sha256}
use Rattle.catalog.specs.CardBytes.{catalog_digest}
use Rattle.tpcc_model.specs.Roots.{root}
use Rattle.tpcc_model.specs.Tokens.{replies_bytes, replies_digest, token_of}
use Rattle.tpcc_rows.specs.Encodings.{bytes_64}
use Rattle.tpcc_rows.proofs.Fields.{numbers_64, texts}
use Rattle.token_laws.specs.Collisions.{IsCollision, catalog_text, collides, collision, hashed_texts, token_text, tree_texts}
use Rattle.token_laws.specs.Covered.{Covered, token}
use Rattle.token_laws.specs.CoveredLimits.{AreBytes, IsReply, IsWithinLimits}
use Rattle.token_laws.specs.EqualTokens.{AreSame, EqualTokens}
use Rattle.token_laws.proofs.Bytes.{bytes-64, bytes-sha256}
use Rattle.token_laws.proofs.Cards.{cards_apart, catalog-bytes}
use Rattle.token_laws.proofs.Lists.{bytes-append}
use Rattle.token_laws.proofs.Replies.{replies-bytes, replies_apart}
use Rattle.token_laws.proofs.Rows.{rows_apart}
use Rattle.token_laws.proofs.Search.{found, is_collision, no_collision, none_found, root-bytes, root-length, same_tree, tree-bytes, zip-all}

-- ---- the text of a token
six_parts : (a b c d f g : List ℕ) → a ++ b ++ c ++ d ++ f ++ g ≡ a ++ (b ++ (c ++ (d ++ (f ++ g))))
six_parts a b c d f g = simp append_assoc

catalog-length : (c : Covered) → length (catalog_digest c.database.cards) ≡ 32
unfolding catalog_digest
catalog-length c = length-sha256 (catalog_text c.database.cards)

text-in_parts : (c : Covered) → token_text c ≡ codes "EVE-TPCC-2" ++ (bytes_64 c.sequence ++ (c.prior ++ (catalog_digest c.database.cards ++ (root c.database.rows ++ replies_digest c.first c.replies))))
text-in_parts c = six_parts (codes "EVE-TPCC-2") (bytes_64 c.sequence) c.prior (catalog_digest c.database.cards) (root c.database.rows) (replies_digest c.first c.replies)

-- the parts of a token
record AreParts (a b : Covered) : Type 0 where
  sequence : a.sequence ≡ b.sequence
  prior : a.prior ≡ b.prior
  catalog : catalog_digest a.database.cards ≡ catalog_digest b.database.cards
  rows : root a.database.rows ≡ root b.database.rows
  replies : replies_digest a.first a.replies ≡ replies_digest b.first b.replies

parts : (a b : Covered) → IsWithinLimits a → IsWithinLimits b → token_text a ≡ token_text b → AreParts a b
parts a b p q same =
    let behind_tag = append_cancel_left (codes "EVE-TPCC-2") _ _ (sym (text-in_parts a) ∙ same ∙ text-in_parts b) in
    let sequence = numbers_64.apart a.sequence b.sequence _ _ p.sequence q.sequence behind_tag in
    let prior = texts a.prior b.prior _ _ (p.prior_length ∙ sym q.prior_length) sequence.1 in
    let catalog = texts (catalog_digest a.database.cards) (catalog_digest b.database.cards) _ _ (catalog-length a ∙ sym (catalog-length b)) prior.1 in
    let rows = texts (root a.database.rows) (root b.database.rows) _ _ (root-length a.database.rows ∙ sym (root-length b.database.rows)) catalog.1 in
    record { sequence = sequence.0; prior = prior.0; catalog = catalog.0; rows = rows.0; replies = rows.1 }

-- ---- where nothing is found
module _ (a b : Covered) (p : IsWithinLimits a) (q : IsWithinLimits b) where
  databases : a.database.cards ≡ b.database.cards → a.database.rows ≡ b.database.rows → a.database ≡ b.database
  databases cards rows = λ i. record { cards = cards i; rows = rows i }

  all_same : find collides (zip (hashed_texts a) (hashed_texts b)) ≡ None → token a ≡ token b → AreSame a b
  unfolding catalog_digest replies_digest token_of
  all_same none equal =
      let trees = zip (tree_texts a.database.rows 16 0) (tree_texts b.database.rows 16 0) in
      let replies_pair : List ℕ × List ℕ = (replies_bytes a.first a.replies, replies_bytes b.first b.replies) in
      let catalog_pair : List ℕ × List ℕ = (catalog_text a.database.cards, catalog_text b.database.cards) in
      let tokens = none_found collides (token_text a, token_text b) (catalog_pair ∷ replies_pair ∷ trees) none in
      let catalogs = none_found collides catalog_pair (replies_pair ∷ trees) tokens.1 in
      let replies = none_found collides replies_pair trees catalogs.1 in
      let part = parts a b p q (no_collision (token_text a) (token_text b) tokens.0 equal) in
      let cards = cards_apart a.database.cards b.database.cards p.database.cards q.database.cards (no_collision (catalog_text a.database.cards) (catalog_text b.database.cards) catalogs.0 part.catalog) in
      let rows = rows_apart a.database.rows b.database.rows p.database.rows q.database.rows (same_tree a.database.rows b.database.rows replies.1 part.rows) in
      let reply_text = no_collision (replies_bytes a.first a.replies) (replies_bytes b.first b.replies) replies.0 part.replies in
      let reply = replies_apart a.first b.first a.replies b.replies p.numbers q.numbers (recursion_from_All IsReply a.replies p.replies) (recursion_from_All IsReply b.replies q.replies) reply_text in
      record { sequence = part.sequence; prior = part.prior; database = databases cards rows; replies = reply.0; first = reply.1 }

-- ---- what is found
tag-bytes : AreBytes (codes "EVE-TPCC-2")
tag-bytes = record { each = (omega arith, (omega arith, (omega arith, (omega arith, (omega arith, (omega arith, (omega arith, (omega arith, (omega arith, (omega arith, tt)))))))))) }

token-bytes : (c : Covered) → IsWithinLimits c → AreBytes (token_text c)
unfolding catalog_digest replies_digest
token-bytes c p =
    let digests = bytes-append (root-bytes c.database.rows) (bytes-sha256 (replies_bytes c.first c.replies)) in
    rw (text-in_parts c) (bytes-append tag-bytes (bytes-append (bytes-64 c.sequence) (bytes-append p.prior (bytes-append (bytes-sha256 (catalog_text c.database.cards)) digests))))

all-bytes : (c : Covered) → IsWithinLimits c → AllByRecursion AreBytes (hashed_texts c)
all-bytes c p = (token-bytes c p, (catalog-bytes c.database.cards p.database.cards, (replies-bytes c.first c.replies (recursion_from_All IsReply c.replies p.replies), tree-bytes c.database.rows p.database.rows 16 0)))

abbrev AreBothBytes : List ℕ × List ℕ → Type 0
AreBothBytes pair = AreBytes pair.0 × AreBytes pair.1

some_found : (a b : Covered) → IsWithinLimits a → IsWithinLimits b → (pair : List ℕ × List ℕ) → find collides (zip (hashed_texts a) (hashed_texts b)) ≡ Some pair → IsCollision pair
some_found a b p q pair is =
    let h = found collides AreBothBytes (zip (hashed_texts a) (hashed_texts b)) pair (zip-all AreBytes AreBytes (hashed_texts a) (hashed_texts b) (all-bytes a p) (all-bytes b q)) is in
    is_collision pair.0 pair.1 h.0.0 h.0.1 h.1

-- ---- the law
pub none_is_same : (a b : Covered) → IsWithinLimits a → IsWithinLimits b → token a ≡ token b → collision a b ≡ None → AreSame a b
unfolding collision
none_is_same a b p q equal none = all_same a b p q none equal

pub some_collides : (a b : Covered) → IsWithinLimits a → IsWithinLimits b → (pair : List ℕ × List ℕ) → collision a b ≡ Some pair → IsCollision pair
unfolding collision
some_collides a b p q pair some = some_found a b p q pair some

by_search : (a b : Covered) → IsWithinLimits a → IsWithinLimits b → token a ≡ token b → (found : Option (List ℕ × List ℕ)) → collision a b ≡ found → AreSame a b ⊎ IsSomeAnd found IsCollision
by_search a b p q equal None is = inl (none_is_same a b p q equal is)
by_search a b p q equal (Some pair) is = inr (some_collides a b p q pair is)

pub equal_tokens : EqualTokens
equal_tokens a b p q equal = by_search a b p q equal (collision a b) refl
