-- The generated records are within limits.
use Rattle.std.proofs.Common.{◌≡◌, ℕ, ◌+◌, ◌-◌, ◌/◌, ◌%◌, ◌<◌, ◌≤◌, ◌^◌, ◌==◌, Bool, true, false, List, [], ◌∷◌, ◌++◌, length, decimal, map, refl, arith, length-append}
use Rattle.std.specs.Prelude.{codes}
use Rattle.std.specs.List.{AllByRecursion, list_all}
use Rattle.std.proofs.Math.ListN.{length-replicate}
use Rattle.std.proofs.lemmas.Fmt.{length-decimal-le}
use Rattle.std.proofs.lemmas.Int.{ints}
use Rattle.std.proofs.lemmas.List.Elements.{All-append, All-nil, All-replicate}
use Rattle.tpcc_rows.specs.Limits.{IsBetween, ten}
use Rattle.tpcc_rows.specs.Texts.{IsPrintable, IsText, is_printable}
use Rattle.tpcc_rows.proofs.Clips.{decimal_printable}
use Rattle.made_database.specs.Made.{long_note, made_customer, made_data, made_district, made_info, made_item, made_note, made_stock, made_warehouse}
use Rattle.loader.proofs.FieldLimits.{printable-all}
use Rattle.loader.proofs.Filled.{IsRead}

-- ---- texts
plain : (n : ℕ) (xs : List ℕ) → length xs ≤ n → list_all is_printable xs ≡ true → IsText n xs
plain n xs short all = record { fits = short; printable = printable-all xs all }

with_number : (n k : ℕ) (word : List ℕ) → list_all is_printable word ≡ true → length word + 9 ≤ n → k < 10 ^ 9 → IsText n (word ++ decimal k)
with_number n k word all room small =
    let digits : length (decimal k) ≤ 9 = length-decimal-le 9 k (omega arith) small (omega (arith, small)) in
    let whole = length-append word (decimal k) in
    record {
      fits = omega (arith, digits, whole, room);
      printable = All-append IsPrintable word (decimal k) (printable-all word all) (decimal_printable k (omega (arith, small)));
    }

info-text : (d : ℕ) → d < 100 → IsText 24 (made_info d)
unfolding made_info
info-text d small =
    let tens : length (decimal (d / 10)) ≤ 9 = length-decimal-le 9 (d / 10) (omega arith) (omega (arith, small)) (omega (arith, small)) in
    let ones : length (decimal (d % 10)) ≤ 9 = length-decimal-le 9 (d % 10) (omega arith) (omega (arith, small)) (omega (arith, small)) in
    let whole = length-append (codes "DIST") (decimal (d / 10) ++ decimal (d % 10)) in
    let digits = length-append (decimal (d / 10)) (decimal (d % 10)) in
    record {
      fits = omega (arith, tens, ones, whole, digits);
      printable = All-append IsPrintable (codes "DIST") (decimal (d / 10) ++ decimal (d % 10)) (printable-all (codes "DIST") refl)
          (All-append IsPrintable (decimal (d / 10)) (decimal (d % 10)) (decimal_printable (d / 10) (omega (arith, small))) (decimal_printable (d % 10) (omega (arith, small))));
    }

infos-text : (ds : List ℕ) → AllByRecursion (λ d. d < 100) ds → AllByRecursion (IsText 24) (map made_info ds)
infos-text [] small = tt
infos-text (d ∷ ds) small = (info-text d small.0, infos-text ds small.1)

data-text : (is_original : Bool) → IsText 50 (made_data is_original)
data-text true = plain 50 (codes "ORIGINAL") (omega arith) refl
data-text false = plain 50 (codes "PLAIN") (omega arith) refl

note-text : (is_bad : Bool) → IsText 500 (made_note is_bad)
unfolding long_note
note-text true = record { fits = omega (arith, length-replicate {A = ℕ} 500 120); printable = All-replicate IsPrintable 500 120 (omega arith, omega arith) }
note-text false = record { fits = omega arith; printable = All-nil IsPrintable }

-- ---- records
pub warehouse-read : (w : ℕ) → IsBetween 1 100 w → IsRead (made_warehouse w)
unfolding made_warehouse
warehouse-read w within = (
  (within, with_number 10 w (codes "W") refl (omega arith) (omega (arith, within.1)), (omega arith, omega arith)),
  (omega (arith, ints), omega (arith, ints)),
)

pub district-read : (w d : ℕ) → IsBetween 1 100 w → IsBetween 1 10 d → IsRead (made_district w d)
unfolding made_district
district-read w d w_is d_is = (
  (w_is, d_is, with_number 10 d (codes "D") refl (omega arith) (omega (arith, d_is.1)), (omega arith, omega arith)),
  (omega (arith, ints), omega (arith, ints)),
  (omega arith, omega arith),
)

pub customer-read : (w d c : ℕ) → IsBetween 1 100 w → IsBetween 1 10 d → IsBetween 1 3000 c → IsRead (made_customer w d c)
unfolding made_customer
customer-read w d c w_is d_is c_is = (
  record {
    warehouse = w_is;
    district = d_is;
    customer = c_is;
    last = with_number 16 (c % 10) (codes "NAME") refl (omega arith) (omega arith);
    middle = plain 2 (codes "OE") (omega arith) refl;
    first = with_number 16 (9 - c / 20 % 10) (codes "F") refl (omega arith) (omega arith);
    discount = (omega arith, omega arith);
  },
  record {
    balance = (omega (arith, ints), omega (arith, ints));
    ytd_payment = (omega (arith, ints), omega (arith, ints));
    payment_count = (omega arith, omega arith);
    delivery_count = (omega arith, omega arith);
    text = note-text (c % 10 == 0);
  },
)

pub stock-read : (w i : ℕ) → IsBetween 1 100 w → IsBetween 1 100000 i → IsRead (made_stock w i)
unfolding made_stock
stock-read w i w_is i_is = (
  record {
    warehouse = w_is;
    item = i_is;
    text = data-text (i % 20 == 0);
    ten_infos = refl;
    district_infos = infos-text ten (omega arith, (omega arith, (omega arith, (omega arith, (omega arith, (omega arith, (omega arith, (omega arith, (omega arith, (omega arith, tt))))))))));
  },
  record {
    quantity = (omega (arith, ints), omega (arith, ints));
    ytd = (omega arith, omega arith);
    order_count = (omega arith, omega arith);
    remote_count = (omega arith, omega arith);
  },
)

pub item-read : (i : ℕ) → IsBetween 1 100000 i → IsRead (made_item i)
unfolding made_item
item-read i i_is = (i_is, with_number 24 i (codes "ITEM") refl (omega arith) (omega (arith, i_is.1)), (omega arith, omega arith), data-text (i % 10 == 0))
