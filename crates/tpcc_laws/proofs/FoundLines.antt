-- As many cards are found for the lines of a new order as it has lines.
use Rattle.std.proofs.Common.{◌≡◌, List, [], ◌∷◌, length, suc, Result, Ok, sym, ap, ◌∙◌}
use Rattle.catalog.specs.CardMap.{Cards}
use Rattle.requests.specs.declared.reply.RequestRefusal.{RequestRefusal}
use Rattle.requests.specs.declared.request.OrderedLine.{OrderedLine}
use Rattle.tpcc_model.specs.NewOrders.{LineCards, found_item, found_lines, found_stock}
use Rattle.tpcc_model.specs.Staging.{for_each}
use Rattle.tpcc_laws.proofs.Doing.{ok-by}

for_each-length : {A B : Type 0} (stage : A → Result B RequestRefusal) (xs : List A) (ys : List B) → for_each stage xs ≡ Ok ys → length ys ≡ length xs
for_each-length stage [] ys done = (let none : [] ≡ ys = cc in ap length (sym none))
for_each-length stage (x ∷ xs) ys done =
    ok-by (stage x) _ _ done λ a ea ha.
    ok-by (for_each stage xs) _ _ ha λ more em hm.
    let is : a ∷ more ≡ ys = cc in
    ap length (sym is) ∙ ap (λ n. suc n) (for_each-length stage xs more em)

pub found_lines-length : (cards : Cards) (lines : List OrderedLine) (found : List LineCards) → found_lines cards lines ≡ Ok found → length found ≡ length lines
unfolding found_lines
found_lines-length cards lines found done =
    ok-by (for_each (found_item cards) lines) _ _ done λ items ei hi.
    for_each-length (found_stock cards) items found hi ∙ for_each-length (found_item cards) lines items ei
