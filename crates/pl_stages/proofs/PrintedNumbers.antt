-- Numbers: the texts that are one are the printed numbers below 10^MAX_DIGITS.
use Rattle.std.proofs.Common.{◌≡◌, ◌↔◌, ◌<◌, ◌≤◌, ℕ, zero, suc, ◌^◌, List, length, get_or, Some, None, Result, Ok, Bool, true, false, cond, not, ◌&&◌, ◌||◌, eqb, leb, decimal, refl, sym, ap, ◌∙◌, arith, rules}
use Rattle.std.specs.List.{list_all}
use Rattle.std.specs.Char.{is_ascii_digit}
use Rattle.std.specs.Str.{IsUtf8}
use Rattle.std.specs.Str.Parse.{digits_value, ParsesUnsigned}
use Rattle.std.proofs.lemmas.Bool.Decides.{nat_tests}
use Rattle.std.proofs.lemmas.Str.{IsUtf8-from_ascii}
use Rattle.std.proofs.lemmas.Str.Ascii.{IsAscii-from_reads}
use Rattle.std.proofs.lemmas.Str.Parse.{IsNumeralModel, numerals_by_value, digit_at, digits_value_short, parse_gives}
use Rattle.std.proofs.lemmas.Fmt.{decimal-digits_value, digits_decimal, digits_value-decimal, decimal_nonempty, length-decimal-le, first_decimal, decimal_digit}
use Rattle.pl_stages.specs.declared.limits.TheConstants.{MAX_DIGITS}
use Rattle.pl_stages.specs.Numbers.{is_number, number_in}

digits : IsNumeralModel (λ ds. list_all is_ascii_digit ds ≡ true) (digits_value 10)
digits = numerals_by_value _ (search rules)

-- what makes a text a number
record IsNumber (text : List ℕ) : Type 0 where
  not_empty : 0 < length text
  short : length text ≤ MAX_DIGITS
  of_digits : list_all is_ascii_digit text ≡ true
  no_leading_zero : get_or text 0 0 ≡ 48 → length text ≡ 1

parts_of : (few long lone leads : Bool) (all : Bool) → ((not few && long && all) && (not leads || lone)) ≡ true
    → (few ≡ false) × (long ≡ true) × (all ≡ true) × (leads ≡ true → lone ≡ true)
parts_of true long lone leads all e = cc
parts_of false false lone leads all e = cc
parts_of false true lone leads false e = cc
parts_of false true lone false true e = (refl, refl, refl, λ h. cc)
parts_of false true true true true e = (refl, refl, refl, λ h. refl)
parts_of false true false true true e = cc

IsNumber-from : (text : List ℕ) → is_number text ≡ true → IsNumber text
IsNumber-from text e =
    let parts = parts_of (eqb (length text) 0) (leb (length text) MAX_DIGITS) (eqb (length text) 1) (eqb (get_or text 0 0) 48) (list_all is_ascii_digit text) e in
    record {
      not_empty = grind (arith, nat_tests, parts.0);
      short = grind (arith, nat_tests, parts.1);
      of_digits = parts.2;
      no_leading_zero = λ z. grind (arith, nat_tests, parts.3);
    }

value-lt : (text : List ℕ) → IsNumber text → digits_value 10 text < 10 ^ MAX_DIGITS
value-lt text is = digits_value_short digits text MAX_DIGITS is.of_digits is.short

-- a number is text, and parses
pub number_is_text : (text : List ℕ) → is_number text ≡ true → IsUtf8 text
number_is_text text e =
    let is = IsNumber-from text e in
    IsUtf8-from_ascii text (IsAscii-from_reads text (length text) (omega arith) (λ k h. let d = digit_at text k (digits.to text is.of_digits) h in omega (arith, d)))

pub number_parses : {E : Type 0} (text : List ℕ) (r : Result ℕ E) → is_number text ≡ true → ParsesUnsigned 32 10 text r
    → r ≡ Ok (digits_value 10 text)
number_parses text r e parses =
    let is = IsNumber-from text e in
    let small = value-lt text is in
    parse_gives digits 32 text r parses is.of_digits is.not_empty (omega arith)

pub number_in-yes : (text : List ℕ) → is_number text ≡ true → number_in text ≡ Some (digits_value 10 text)
number_in-yes text e = rw e

number_of : (is : Bool) (value n : ℕ) → cond is (Some value) None ≡ Some n → (is ≡ true) × (value ≡ n)
number_of true value n e = (refl, cc)
number_of false value n e = cc

-- a text is a number where it is how that is printed
pub number_in-printed : (text : List ℕ) (n : ℕ) → number_in text ≡ Some n → (text ≡ decimal n) × (n < 10 ^ MAX_DIGITS)
number_in-printed text n e =
    let found = number_of (is_number text) (digits_value 10 text) n e in
    let is = IsNumber-from text found.0 in
    let small = value-lt text is in
    let printed : decimal (digits_value 10 text) ≡ text =
    decimal-digits_value digits text is.of_digits is.not_empty is.no_leading_zero (omega arith) in
    (sym printed ∙ ap decimal found.1, omega (arith, found.1))

above_zero : (first long : ℕ) → 48 < first → (not (eqb first 48) || eqb long 1) ≡ true
above_zero first long h = grind (arith, nat_tests, h)

no_zero : (n : ℕ) → n < 10 ^ MAX_DIGITS → (not (eqb (get_or (decimal n) 0 0) 48) || eqb (length (decimal n)) 1) ≡ true
no_zero zero h = rw (decimal_digit 0 (omega arith))
no_zero (suc n) h = above_zero _ _ (first_decimal (suc n) (omega arith) (omega arith))

pub number_in-decimal : (n : ℕ) → n < 10 ^ MAX_DIGITS → number_in (decimal n) ≡ Some n
number_in-decimal n small =
    let full : eqb (length (decimal n)) 0 ≡ false = let h = decimal_nonempty n (omega arith) in grind (arith, nat_tests, h) in
    let short : leb (length (decimal n)) MAX_DIGITS ≡ true = let h = length-decimal-le MAX_DIGITS n (omega arith) small (omega arith) in grind (arith, nat_tests, h) in
    rw (full, short, digits_decimal digits n (omega arith), no_zero n small, digits_value-decimal digits n (omega arith))

pub number_in-is : (text : List ℕ) (n : ℕ) → (number_in text ≡ Some n) ↔ ((n < 10 ^ MAX_DIGITS) × (text ≡ decimal n))
number_in-is text n = (
  λ e. let printed = number_in-printed text n e in (printed.1, printed.0),
  λ is. ap number_in is.1 ∙ number_in-decimal n is.0,
)
