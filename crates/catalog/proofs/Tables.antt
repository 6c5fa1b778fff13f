-- The cards of a tree, moved in their order.
use Rattle.std.proofs.Common.{◌≡◌, Bool, true, false, T, List, BTreeMap, refl, sym, subst, ◌∙◌}
use Rattle.std.specs.BTreeMap.{IsOrdered}
use Rattle.std.specs.FinMap.{entries, entries_sorted, entries-from_sorted, from_entries, is_sorted, same_entries_map}
use Rattle.tpcc_rows.specs.Places.{are_in_order}
use Rattle.tpcc_rows.proofs.Maps.{entries-map_of}
use Rattle.tpcc_rows.proofs.Places.{map_of}
use Rattle.catalog.specs.declared.card.Card.{Card}
use Rattle.catalog.specs.declared.card.CardKey.{CardKey}
use Rattle.catalog.specs.CardMap.{card_key_cmp}
use Rattle.catalog.proofs.CardKeys.{card_key_cmp_total, exact_cards}

pub in-order : (b : Bool) → T b → b ≡ true
in-order true h = refl
in-order false h = absurd h

module _ (tree : BTreeMap CardKey Card) (ordered : IsOrdered card_key_cmp tree) (moved : List (CardKey × Card)) (whole : moved ≡ tree.entries) where
  same : entries (from_entries {R = card_key_cmp} tree.entries) ≡ moved
  same = entries-map_of card_key_cmp_total exact_cards tree.entries ordered ∙ sym whole

  sorted : T (is_sorted card_key_cmp moved)
  sorted = subst (λ es. T (is_sorted card_key_cmp es)) same (entries_sorted (from_entries tree.entries))

  pub moved-in_order : are_in_order card_key_cmp moved ≡ true
  moved-in_order = in-order _ sorted

  pub moved-map : map_of card_key_cmp moved ≡ from_entries {R = card_key_cmp} tree.entries
  moved-map = same_entries_map _ _ (entries-from_sorted card_key_cmp moved sorted ∙ sym same)
