-- Stamps as text.
use Rattle.std.specs.Prelude.{◌≡◌, ℕ, List, Ok, ◌++◌, codes, decimal, length}
use Rattle.hex.specs.Hex.{IsBytes, decode_sized}
use Rattle.records.specs.Fields.{number_in}
use Rattle.executor.specs.declared.next_batch.TheConstants.{LAST_NUMBER}
use Rattle.tpcc_rows.specs.declared.id.TheConstants.{END_OF_NUMBERS}
use Rattle.executor.specs.Stamps.{IsWithinLimits}
use Rattle.executor.specs.declared.stamp.Stamp.{Stamp}
use Rattle.runner.specs.Text.{token_digits}

-- `SEQ,NEXT,TOKEN`
abbrev pub stamp_word : Stamp → List ℕ
stamp_word stamp = decimal stamp.sequence ++ codes "," ++ decimal stamp.next ++ codes "," ++ token_digits stamp.token

-- the line `at,SEQ,NEXT,TOKEN`
abbrev pub at_text : Stamp → List ℕ
at_text stamp = codes "at," ++ stamp_word stamp ++ codes "\n"

-- a token has 32 bytes
abbrev pub HasToken : Stamp → Type 0
HasToken stamp = (length stamp.token ≡ 32) × IsBytes stamp.token

-- the word spells this stamp, whose numbers are within their limits
abbrev pub Tells : List ℕ → Stamp → Type 0
Tells word stamp = IsWithinLimits stamp × HasToken stamp × (word ≡ stamp_word stamp)

-- its three parts
abbrev pub AreRead : List ℕ → List ℕ → List ℕ → Stamp → Type 0
AreRead sequence next token stamp =
    (number_in 0 LAST_NUMBER sequence ≡ Ok stamp.sequence) × (number_in 1 END_OF_NUMBERS next ≡ Ok stamp.next) × (decode_sized token 32 ≡ Ok stamp.token)
