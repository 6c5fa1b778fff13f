-- The state before any batch, from its parts.
use Rattle.std.proofs.Common.{◌≡◌, ◌∙◌, ℕ, List, [], ap, ap₂}
use Rattle.catalog.specs.CardBytes.{catalog_digest}
use Rattle.catalog.specs.CardMap.{Cards}
use Rattle.tpcc_rows.specs.RowMap.{Rows}
use Rattle.tpcc_model.specs.Roots.{root}
use Rattle.tpcc_model.specs.Serial.{State, next_number, opening}
use Rattle.tpcc_model.specs.Tokens.{no_token, replies_digest, token_of}
use Rattle.executor.specs.Chains.{state_of}
use Rattle.executor.specs.declared.stamp.Stamp.{Stamp}

pub opening_stamp : (cards : Cards) (rows : Rows) (stamp : Stamp) (digest top none : List ℕ) → stamp.next ≡ next_number rows → digest ≡ catalog_digest cards → top ≡ root rows → none ≡ replies_digest stamp.next []
    → stamp.token ≡ token_of 0 no_token digest top none → state_of rows (record { next = stamp.next; sequence = 0; token = stamp.token }) ≡ opening cards rows
opening_stamp cards rows stamp digest top none first of_cards of_rows of_none told =
    let token = told
    ∙ ap (λ (d : List ℕ). token_of 0 no_token d top none) of_cards
    ∙ ap (λ (r : List ℕ). token_of 0 no_token (catalog_digest cards) r none) of_rows
    ∙ ap (λ (n : List ℕ). token_of 0 no_token (catalog_digest cards) (root rows) n) (of_none ∙ ap (λ (n : ℕ). replies_digest n []) first) in
    ap₂ (λ (n : ℕ) (t : List ℕ). let s : State = record { rows = rows; next = n; sequence = 0; token = t } in s) first token
