-- Which lines are which commands.
use Rattle.std.proofs.Common.{◌≡◌, ◌≢◌, ◌↔◌, ◌<◌, ℕ, ◌+◌, ◌^◌, List, [], ◌∷◌, ◌++◌, length, get_or, take, drop, Option, Some, None, Result, Ok, Err, Bool, true, false, cond, ◌||◌, ◌&&◌, not, leb, ◌==◌, ⊎_elim, codes, decimal, refl, sym, ap, ◌∙◌, cond, append_assoc, length-append, arith}
use Rattle.std.proofs.lemmas.Bool.{false_from_ne_true, both_ways, false≢true, cases_Bool}
use Rattle.std.proofs.Math.Seq.{get_or-append_seam}
use Rattle.std.proofs.Math.ListN.{get_or-append}
use Rattle.std.proofs.lemmas.Bool.Decides.{nat_tests}
use Rattle.std.proofs.lemmas.List.{drop_at, take_at}
use Rattle.std.proofs.lemmas.List.Folds.{list_any_at, list_all_at}
use Rattle.std.proofs.lemmas.List.Sums.{position_or_len_is}
use Rattle.std.proofs.lemmas.Slice.Eq.{bytes_eq-Decides}
use Rattle.std.specs.List.{list_any, list_all, position_or_len, after_first}
use Rattle.std.specs.Prelude.{option_and_then}
use Rattle.std.specs.Str.{bytes_eq}
use Rattle.pl_event.specs.Keys.{is_key, is_key_byte}
use Rattle.pl_event.specs.declared.events.Command.{Command}
use Rattle.pl_event.specs.declared.events.Command.TheVariants.{Ping, Quit, Echo, Add, Get}
use Rattle.pl_event.specs.declared.events.Caught.{Caught}
use Rattle.pl_event.specs.declared.events.Caught.TheVariants.{Unknown, Syntax, TooLong}
use Rattle.pl_stages.specs.declared.limits.TheConstants.{MAX_DIGITS}
use Rattle.pl_stages.specs.Numbers.{number_in}
use Rattle.pl_stages.specs.Commands.{is_space, before_space, after_space, verb_of, key_in, ping_with, quit_with, echo_with, add_with, addition_of, get_with, get_of, command_of}
use Rattle.pl_stages.proofs.Spaces.{after_some, whole_of, split_of}
use Rattle.pl_stages.proofs.PrintedNumbers.{number_in-printed, number_in-decimal}

-- with no number there is no addition
pub addition_of-no_number : (key : Option (List ℕ)) → Err Syntax ≡ addition_of key None
addition_of-no_number None = refl
addition_of-no_number (Some key) = refl

-- something follows ECHO, ADD and GET
pub needs_more : (p q e a g : Bool) → p ≡ false → q ≡ false → true ≡ (e || a || g)
    → Err Syntax ≡ cond p (Ok Ping) (cond q (Ok Quit) (cond e (Err Syntax) (cond a (Err Syntax) (cond g (Err Syntax) (Err Unknown)))))
needs_more true q e a g np nq some = cc
needs_more false true e a g np nq some = cc
needs_more false false true a g np nq some = refl
needs_more false false false true g np nq some = refl
needs_more false false false false true np nq some = refl
needs_more false false false false false np nq some = cc

-- which answer it is: 0 for a wrong syntax, and else by the verb
kind : Result Command Caught → ℕ
kind (Ok Ping) = 1
kind (Ok Quit) = 2
kind (Ok (Echo text)) = 3
kind (Ok (Add key n)) = 4
kind (Ok (Get key)) = 5
kind (Err Unknown) = 6
kind (Err Syntax) = 0
kind (Err TooLong) = 7

-- An answer of this kind is one of the verb of that number.
IsOf : ℕ → Result Command Caught → Type 0
IsOf verb answer = (kind answer == 0 || kind answer == verb) ≡ true

by_argument : (verb : ℕ) (answer : Option (List ℕ) → Result Command Caught) → IsOf verb (answer None) → ((x : List ℕ) → IsOf verb (answer (Some x))) → (a : Option (List ℕ)) → IsOf verb (answer a)
by_argument verb answer none some None = none
by_argument verb answer none some (Some x) = some x

ping-IsOf : (a : Option (List ℕ)) → IsOf 1 (ping_with a)
unfolding kind IsOf
ping-IsOf = by_argument 1 ping_with refl (λ x. refl)

quit-IsOf : (a : Option (List ℕ)) → IsOf 2 (quit_with a)
unfolding kind IsOf
quit-IsOf = by_argument 2 quit_with refl (λ x. refl)

echo-IsOf : (a : Option (List ℕ)) → IsOf 3 (echo_with a)
unfolding kind IsOf
echo-IsOf = by_argument 3 echo_with refl (λ x. refl)

addition-IsOf : (key : Option (List ℕ)) (n : Option ℕ) → IsOf 4 (addition_of key n)
unfolding kind IsOf
addition-IsOf None n = refl
addition-IsOf (Some key) None = refl
addition-IsOf (Some key) (Some n) = refl

add-IsOf : (a : Option (List ℕ)) → IsOf 4 (add_with a)
unfolding kind IsOf
add-IsOf = by_argument 4 add_with refl (λ x. addition-IsOf (key_in (before_space x)) (option_and_then number_in (after_space x)))

get-IsOf : (a : Option (List ℕ)) → IsOf 5 (get_with a)
unfolding kind IsOf
get-IsOf = by_argument 5 get_with refl (λ x. by_argument 5 get_of refl (λ key. refl) (key_in x))

-- Which verb a line has, and which answer that gives.
data Chosen (p q e a g : Bool) (rp rq re ra rg r : Result Command Caught) : Type 0 where
  ping : p ≡ true → rp ≡ r → Chosen p q e a g rp rq re ra rg r
  quit : q ≡ true → rq ≡ r → Chosen p q e a g rp rq re ra rg r
  echo : e ≡ true → re ≡ r → Chosen p q e a g rp rq re ra rg r
  add : a ≡ true → ra ≡ r → Chosen p q e a g rp rq re ra rg r
  get : g ≡ true → rg ≡ r → Chosen p q e a g rp rq re ra rg r
  unknown : (p ≡ false) × (q ≡ false) × (e ≡ false) × (a ≡ false) × (g ≡ false) → Err Unknown ≡ r → Chosen p q e a g rp rq re ra rg r

chosen : (p q e a g : Bool) (rp rq re ra rg r : Result Command Caught)
    → cond p rp (cond q rq (cond e re (cond a ra (cond g rg (Err Unknown))))) ≡ r → Chosen p q e a g rp rq re ra rg r
chosen true q e a g rp rq re ra rg r h = ping refl h
chosen false true e a g rp rq re ra rg r h = quit refl h
chosen false false true a g rp rq re ra rg r h = echo refl h
chosen false false false true g rp rq re ra rg r h = add refl h
chosen false false false false true rp rq re ra rg r h = get refl h
chosen false false false false false rp rq re ra rg r h = unknown (refl, refl, refl, refl, refl) h

ChosenOf : List ℕ → Result Command Caught → Type 0
ChosenOf line r =
    let v = verb_of line in let a = after_space line in
    Chosen (bytes_eq v (codes "PING")) (bytes_eq v (codes "QUIT")) (bytes_eq v (codes "ECHO")) (bytes_eq v (codes "ADD")) (bytes_eq v (codes "GET"))
    (ping_with a) (quit_with a) (echo_with a) (add_with a) (get_with a) r

chosen_of : (line : List ℕ) (r : Result Command Caught) → command_of line ≡ r → ChosenOf line r
unfolding ChosenOf
chosen_of line r h =
    let v = verb_of line in let a = after_space line in
    chosen (bytes_eq v (codes "PING")) (bytes_eq v (codes "QUIT")) (bytes_eq v (codes "ECHO")) (bytes_eq v (codes "ADD")) (bytes_eq v (codes "GET"))
    (ping_with a) (quit_with a) (echo_with a) (add_with a) (get_with a) r h

-- a command other than a wrong syntax is of its own verb only
only : (verb : ℕ) (answer : Result Command Caught) (r : Result Command Caught) → IsOf verb answer → answer ≡ r
    → (kind r == 0 || kind r == verb) ≡ false → ⊥
unfolding IsOf
only verb answer r of e apart = false≢true (sym apart ∙ rw e at of)

verb_is : (line verb : List ℕ) → bytes_eq (verb_of line) verb ≡ true → verb_of line ≡ verb
verb_is line verb e = (bytes_eq-Decides (verb_of line) verb).0 e

alone : (line verb : List ℕ) → bytes_eq (verb_of line) verb ≡ true → after_space line ≡ None → line ≡ verb
alone line verb e lone = whole_of line lone ∙ verb_is line verb e

followed : (line verb argument : List ℕ) → bytes_eq (verb_of line) verb ≡ true → after_space line ≡ Some argument
    → line ≡ verb ++ 32 ∷ argument
followed line verb argument e some =
    split_of line argument some ∙ ap (λ (v : List ℕ). v ++ 32 ∷ argument) (verb_is line verb e)

ping_with-none : (a : Option (List ℕ)) → ping_with a ≡ Ok Ping → a ≡ None
ping_with-none None e = refl
ping_with-none (Some x) e = cc

quit_with-none : (a : Option (List ℕ)) → quit_with a ≡ Ok Quit → a ≡ None
quit_with-none None e = refl
quit_with-none (Some x) e = cc

echo_text : (a : Option (List ℕ)) (text : List ℕ) → echo_with a ≡ Ok (Echo text) → a ≡ Some text
echo_text None text e = cc
echo_text (Some x) text e = cc

addition_is : (k : Option (List ℕ)) (m : Option ℕ) (key : List ℕ) (n : ℕ) → addition_of k m ≡ Ok (Add key n)
    → (k ≡ Some key) × (m ≡ Some n)
addition_is (Some k) (Some m) key n e = (cc, cc)
addition_is (Some k) None key n e = cc
addition_is None m key n e = cc

got_is : (k : Option (List ℕ)) (key : List ℕ) → get_of k ≡ Ok (Get key) → k ≡ Some key
got_is (Some k) key e = cc
got_is None key e = cc

-- a key and a number, with a space between them
record IsAddition (argument key : List ℕ) (n : ℕ) : Type 0 where
  named : is_key key ≡ true
  small : n < 10 ^ MAX_DIGITS
  text : argument ≡ key ++ 32 ∷ decimal n

number_after : (after : Option (List ℕ)) (n : ℕ) → option_and_then number_in after ≡ Some n
    → (text : List ℕ) × (after ≡ Some text) × (number_in text ≡ Some n)
number_after None n e = cc
number_after (Some text) n e = (text, refl, e)

IsAddition-from : (argument key : List ℕ) (n : ℕ)
    → addition_of (key_in (before_space argument)) (option_and_then number_in (after_space argument)) ≡ Ok (Add key n)
    → IsAddition argument key n
IsAddition-from argument key n e =
    let parts = addition_is (key_in (before_space argument)) (option_and_then number_in (after_space argument)) key n e in
    let name = after_some (is_key (before_space argument)) (before_space argument) key parts.0 in
    let number = number_after (after_space argument) n parts.1 in
    let printed = number_in-printed number.0 n number.2 in
    record {
      named = ap is_key (sym name.1) ∙ name.0;
      small = printed.1;
      text = split_of argument number.0 number.1
          ∙ ap (λ (k : List ℕ). k ++ 32 ∷ number.0) name.1 ∙ ap (λ (t : List ℕ). key ++ 32 ∷ t) printed.0;
    }

add_is : (a : Option (List ℕ)) (key : List ℕ) (n : ℕ) → add_with a ≡ Ok (Add key n)
    → (argument : List ℕ) × (a ≡ Some argument) × IsAddition argument key n
add_is None key n e = cc
add_is (Some argument) key n e = (argument, refl, IsAddition-from argument key n e)

get_is : (a : Option (List ℕ)) (key : List ℕ) → get_with a ≡ Ok (Get key) → (is_key key ≡ true) × (a ≡ Some key)
get_is None key e = cc
get_is (Some name) key e =
    let found = after_some (is_key name) name key (got_is (key_in name) key e) in
    (ap is_key (sym found.1) ∙ found.0, ap Some found.1)

-- a byte of a key is not a space
key_byte : (b : ℕ) → is_key_byte b ≡ true → is_space b ≡ false
key_byte b e = grind (arith, nat_tests, e)

of_key : (few long : Bool) (all : Bool) → (not few && long && all) ≡ true → all ≡ true
of_key few long true e = refl
of_key true long false e = cc
of_key false true false e = cc
of_key false false false e = cc

no_space : (key : List ℕ) → list_all is_key_byte key ≡ true → (k : ℕ) → k < length key → is_space (get_or key k 0) ≡ false
no_space key all k h =
    key_byte (get_or key k 0) (⊎_elim (λ t. t) (λ f. absurd (both_ways (list_all is_key_byte key) (list_all_at is_key_byte key k 0 h f) all)) (cases_Bool (is_key_byte (get_or key k 0))))

drop_seam : (key rest : List ℕ) → drop (length key + 1) (key ++ 32 ∷ rest) ≡ rest
drop_seam key rest =
    ap (λ (t : List ℕ). drop (length key + 1) t) (sym (append_assoc key (32 ∷ []) rest))
    ∙ drop_at (key ++ 32 ∷ []) rest (length key + 1) (length-append key (32 ∷ []))

key_then : (key rest : List ℕ) → is_key key ≡ true
    → (before_space (key ++ 32 ∷ rest) ≡ key) × (after_space (key ++ 32 ∷ rest) ≡ Some rest)
key_then key rest named =
    let none = no_space key (of_key (length key == 0) (leb (length key) 16) (list_all is_key_byte key) named) in
    let text = key ++ 32 ∷ rest in
    let long = length-append key (32 ∷ rest) in
    let at : get_or text (length key) 0 ≡ 32 = get_or-append_seam key 32 rest 0 in
    let first : position_or_len is_space text ≡ length key =
    position_or_len_is is_space text (length key) 0 (omega arith)
    (λ k h. ap is_space (get_or-append key (32 ∷ rest) 0 k h) ∙ none k h) (λ h. ap is_space at) in
    let some : list_any is_space text ≡ true = list_any_at is_space text (length key) 0 (omega arith) (ap is_space at) in (
      ap (λ (k : ℕ). take k text) first ∙ take_at key (32 ∷ rest) (length key) refl,
      ap (λ (b : Bool). cond b (Some (after_first is_space text)) None) some
          ∙ ap (λ (k : ℕ). Some (drop (k + 1) text)) first ∙ ap Some (drop_seam key rest),
    )

pub command_of-ping : (line : List ℕ) → (command_of line ≡ Ok Ping) ↔ (line ≡ codes "PING")
unfolding ChosenOf kind
command_of-ping line = (
  λ h. elim (chosen_of line (Ok Ping) h) [
    | ping v e ↦ alone line (codes "PING") v (ping_with-none (after_space line) e)
    | quit v e ↦ absurd (only 2 (quit_with (after_space line)) (Ok Ping) (quit-IsOf (after_space line)) e refl)
    | echo v e ↦ absurd (only 3 (echo_with (after_space line)) (Ok Ping) (echo-IsOf (after_space line)) e refl)
    | add v e ↦ absurd (only 4 (add_with (after_space line)) (Ok Ping) (add-IsOf (after_space line)) e refl)
    | get v e ↦ absurd (only 5 (get_with (after_space line)) (Ok Ping) (get-IsOf (after_space line)) e refl)
    | unknown v e ↦ cc
  ],
  λ e. rw e,
)

pub command_of-quit : (line : List ℕ) → (command_of line ≡ Ok Quit) ↔ (line ≡ codes "QUIT")
unfolding ChosenOf kind
command_of-quit line = (
  λ h. elim (chosen_of line (Ok Quit) h) [
    | ping v e ↦ absurd (only 1 (ping_with (after_space line)) (Ok Quit) (ping-IsOf (after_space line)) e refl)
    | quit v e ↦ alone line (codes "QUIT") v (quit_with-none (after_space line) e)
    | echo v e ↦ absurd (only 3 (echo_with (after_space line)) (Ok Quit) (echo-IsOf (after_space line)) e refl)
    | add v e ↦ absurd (only 4 (add_with (after_space line)) (Ok Quit) (add-IsOf (after_space line)) e refl)
    | get v e ↦ absurd (only 5 (get_with (after_space line)) (Ok Quit) (get-IsOf (after_space line)) e refl)
    | unknown v e ↦ cc
  ],
  λ e. rw e,
)

pub command_of-echo : (line text : List ℕ) → (command_of line ≡ Ok (Echo text)) ↔ (line ≡ codes "ECHO " ++ text)
unfolding ChosenOf kind
command_of-echo line text = (
  λ h. elim (chosen_of line (Ok (Echo text)) h) [
    | ping v e ↦ absurd (only 1 (ping_with (after_space line)) (Ok (Echo text)) (ping-IsOf (after_space line)) e refl)
    | quit v e ↦ absurd (only 2 (quit_with (after_space line)) (Ok (Echo text)) (quit-IsOf (after_space line)) e refl)
    | echo v e ↦ followed line (codes "ECHO") text v (echo_text (after_space line) text e)
    | add v e ↦ absurd (only 4 (add_with (after_space line)) (Ok (Echo text)) (add-IsOf (after_space line)) e refl)
    | get v e ↦ absurd (only 5 (get_with (after_space line)) (Ok (Echo text)) (get-IsOf (after_space line)) e refl)
    | unknown v e ↦ cc
  ],
  λ e. rw e,
)

-- the line of an addition
IsAdd : (line key : List ℕ) (n : ℕ) → Type 0
IsAdd line key n = (is_key key ≡ true) × (n < 10 ^ MAX_DIGITS) × (line ≡ codes "ADD " ++ key ++ codes " " ++ decimal n)

add_line : (line key argument : List ℕ) (n : ℕ) → bytes_eq (verb_of line) (codes "ADD") ≡ true
    → after_space line ≡ Some argument → IsAddition argument key n → IsAdd line key n
unfolding IsAdd
add_line line key argument n v some is =
    (is.named, is.small, followed line (codes "ADD") argument v some ∙ ap (λ (t : List ℕ). codes "ADD " ++ t) is.text ∙ sym (append_assoc (codes "ADD " ++ key) (codes " ") (decimal n)))

add_read : (argument key text : List ℕ) (n : ℕ) → (before_space argument ≡ key) × (after_space argument ≡ Some text)
    → is_key key ≡ true → number_in text ≡ Some n → add_with (Some argument) ≡ Ok (Add key n)
add_read argument key text n parts named number =
    ap (λ (k : List ℕ). addition_of (key_in k) (option_and_then number_in (after_space argument))) parts.0
    ∙ ap (λ (b : Option (List ℕ)). addition_of (key_in key) (option_and_then number_in b)) parts.1
    ∙ ap (addition_of (key_in key)) number ∙ ap (λ (b : Bool). addition_of (cond b (Some key) None) (Some n)) named

add_from : (line key : List ℕ) (n : ℕ) → IsAdd line key n → command_of line ≡ Ok (Add key n)
unfolding IsAdd
add_from line key n is =
    ap command_of (is.2 ∙ append_assoc (codes "ADD " ++ key) (codes " ") (decimal n))
    ∙ add_read (key ++ 32 ∷ decimal n) key (decimal n) n (key_then key (decimal n) is.0) is.0 (number_in-decimal n is.1)

pub command_of-add : (line key : List ℕ) (n : ℕ)
    → (command_of line ≡ Ok (Add key n)) ↔ ((is_key key ≡ true) × (n < 10 ^ MAX_DIGITS) × (line ≡ codes "ADD " ++ key ++ codes " " ++ decimal n))
unfolding ChosenOf kind IsAdd
command_of-add line key n = (
  λ h. elim (chosen_of line (Ok (Add key n)) h) [
    | ping v e ↦ absurd (only 1 (ping_with (after_space line)) (Ok (Add key n)) (ping-IsOf (after_space line)) e refl)
    | quit v e ↦ absurd (only 2 (quit_with (after_space line)) (Ok (Add key n)) (quit-IsOf (after_space line)) e refl)
    | echo v e ↦ absurd (only 3 (echo_with (after_space line)) (Ok (Add key n)) (echo-IsOf (after_space line)) e refl)
    | add v e ↦ let is = add_is (after_space line) key n e in add_line line key is.0 n v is.1 is.2
    | get v e ↦ absurd (only 5 (get_with (after_space line)) (Ok (Add key n)) (get-IsOf (after_space line)) e refl)
    | unknown v e ↦ cc
  ],
  λ is. add_from line key n is,
)

pub command_of-get : (line key : List ℕ)
    → (command_of line ≡ Ok (Get key)) ↔ ((is_key key ≡ true) × (line ≡ codes "GET " ++ key))
unfolding ChosenOf kind
command_of-get line key = (
  λ h. elim (chosen_of line (Ok (Get key)) h) [
    | ping v e ↦ absurd (only 1 (ping_with (after_space line)) (Ok (Get key)) (ping-IsOf (after_space line)) e refl)
    | quit v e ↦ absurd (only 2 (quit_with (after_space line)) (Ok (Get key)) (quit-IsOf (after_space line)) e refl)
    | echo v e ↦ absurd (only 3 (echo_with (after_space line)) (Ok (Get key)) (echo-IsOf (after_space line)) e refl)
    | add v e ↦ absurd (only 4 (add_with (after_space line)) (Ok (Get key)) (add-IsOf (after_space line)) e refl)
    | get v e ↦ let is = get_is (after_space line) key e in (is.0, followed line (codes "GET") key v is.1)
    | unknown v e ↦ cc
  ],
  λ is. rw (is.1, is.0),
)

unequal : (line verb : List ℕ) → bytes_eq (verb_of line) verb ≡ false → verb_of line ≢ verb
unequal line verb other e = both_ways _ other ((bytes_eq-Decides (verb_of line) verb).1 e)

differs : (line verb : List ℕ) → verb_of line ≢ verb → bytes_eq (verb_of line) verb ≡ false
differs line verb apart = false_from_ne_true _ (λ t. apart ((bytes_eq-Decides (verb_of line) verb).0 t))

pub command_of-unknown : (line : List ℕ) → (command_of line ≡ Err Unknown)
    ↔ ((verb_of line ≢ codes "PING") × (verb_of line ≢ codes "QUIT") × (verb_of line ≢ codes "ECHO") × (verb_of line ≢ codes "ADD") × (verb_of line ≢ codes "GET"))
unfolding ChosenOf kind
command_of-unknown line = (
  λ h. elim (chosen_of line (Err Unknown) h) [
    | ping v e ↦ absurd (only 1 (ping_with (after_space line)) (Err Unknown) (ping-IsOf (after_space line)) e refl)
    | quit v e ↦ absurd (only 2 (quit_with (after_space line)) (Err Unknown) (quit-IsOf (after_space line)) e refl)
    | echo v e ↦ absurd (only 3 (echo_with (after_space line)) (Err Unknown) (echo-IsOf (after_space line)) e refl)
    | add v e ↦ absurd (only 4 (add_with (after_space line)) (Err Unknown) (add-IsOf (after_space line)) e refl)
    | get v e ↦ absurd (only 5 (get_with (after_space line)) (Err Unknown) (get-IsOf (after_space line)) e refl)
    | unknown v e ↦ (unequal line (codes "PING") v.0, unequal line (codes "QUIT") v.1, unequal line (codes "ECHO") v.2, unequal line (codes "ADD") v.3, unequal line (codes "GET") v.4)
  ],
  λ apart. rw (differs line (codes "PING") apart.0, differs line (codes "QUIT") apart.1, differs line (codes "ECHO") apart.2, differs line (codes "ADD") apart.3, differs line (codes "GET") apart.4),
)

pub command_of-never_long : (line : List ℕ) → command_of line ≢ Err TooLong
unfolding ChosenOf kind
command_of-never_long line h =
    elim (chosen_of line (Err TooLong) h) [
      | ping v e ↦ only 1 (ping_with (after_space line)) (Err TooLong) (ping-IsOf (after_space line)) e refl
      | quit v e ↦ only 2 (quit_with (after_space line)) (Err TooLong) (quit-IsOf (after_space line)) e refl
      | echo v e ↦ only 3 (echo_with (after_space line)) (Err TooLong) (echo-IsOf (after_space line)) e refl
      | add v e ↦ only 4 (add_with (after_space line)) (Err TooLong) (add-IsOf (after_space line)) e refl
      | get v e ↦ only 5 (get_with (after_space line)) (Err TooLong) (get-IsOf (after_space line)) e refl
      | unknown v e ↦ cc
    ]
