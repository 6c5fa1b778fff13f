-- What is written of rows, cards and replies is bytes.
use Rattle.std.proofs.Common.{ℕ, zero, suc, ◌<◌, Bool, true, false, List, length, Option, Some, None, IfSome, arith}
use Rattle.std.specs.Int.{byte_at, bytes_high_first}
use Rattle.std.specs.Prelude.{slice_index, unwrap_or}
use Rattle.std.proofs.lemmas.List.Elements.{recursion_from_All}
use Rattle.sha2.specs.Sha256.{digest_bytes, final_hash, initial_hash_256, sha256}
use Rattle.tpcc_rows.specs.Encodings.{bytes_16, bytes_32, bytes_64, flag, maybe_moment, short_text, sized}
use Rattle.tpcc_rows.specs.Limits.{IsBetween}
use Rattle.tpcc_rows.specs.Texts.{IsPrintable, IsText}
use Rattle.token_laws.specs.CoveredLimits.{AreBytes}
use Rattle.token_laws.proofs.Lists.{bytes-append, bytes-cons, narrowed, no_bytes}

-- ---- numbers
byte : (k n : ℕ) → byte_at k n < 256
byte zero n = omega arith
byte (suc k) n = omega arith

high_first : (k n : ℕ) → AreBytes (bytes_high_first k n)
high_first zero n = no_bytes
high_first (suc k) n = bytes-cons (byte k n) (high_first k n)

pub bytes-64 : (n : ℕ) → AreBytes (bytes_64 n)
unfolding bytes_64
bytes-64 n = high_first 8 n

pub bytes-32 : (n : ℕ) → AreBytes (bytes_32 n)
unfolding bytes_32
bytes-32 n = high_first 4 n

pub bytes-16 : (n : ℕ) → AreBytes (bytes_16 n)
unfolding bytes_16
bytes-16 n = high_first 2 n

-- ---- digests
first_words_of : (h : List ℕ) (n : ℕ) → AreBytes (digest_bytes h n)
unfolding digest_bytes
first_words_of h zero = no_bytes
first_words_of h (suc n) = bytes-append (first_words_of h n) (high_first 4 (slice_index h n))

pub bytes-sha256 : (m : List ℕ) → AreBytes (sha256 m)
unfolding sha256
bytes-sha256 m = first_words_of (final_hash initial_hash_256 m) 8

-- ---- texts and small numbers
pub bytes-text : (n : ℕ) (text : List ℕ) → IsText n text → AreBytes text
bytes-text n text is = record { each = narrowed IsPrintable (λ (b : ℕ). b < 256) text (λ b h. omega (arith, h.1)) (recursion_from_All IsPrintable text is.printable) }

-- after its length in one byte
pub bytes-short : (n : ℕ) (text : List ℕ) → n < 256 → IsText n text → AreBytes (short_text text)
bytes-short n text small is = bytes-cons (omega (arith, small, is.fits)) (bytes-text n text is)

pub bytes-moment : (o : Option ℕ) → AreBytes (maybe_moment o)
bytes-moment None = bytes-cons (omega arith) (bytes-64 0)
bytes-moment (Some n) = bytes-cons (omega arith) (bytes-64 n)

pub flag-small : (b : Bool) → flag b < 256
flag-small true = omega arith
flag-small false = omega arith

-- a number where there is one, and else 0
pub or_zero-small : (o : Option ℕ) → IfSome o (IsBetween 1 10) → unwrap_or o 0 < 256
or_zero-small None h = omega arith
or_zero-small (Some n) h = omega (arith, h.1)

-- a body after its length
pub bytes-sized : (body : List ℕ) → AreBytes body → AreBytes (sized body)
bytes-sized body are = bytes-append (bytes-16 (length body)) are
