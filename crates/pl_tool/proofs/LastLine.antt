-- A line that is written bit by bit.
use Rattle.std.proofs.Common.{◌≡◌, ◌∙◌, ℕ, List, [], ◌++◌, take, drop, Option, Some, None, refl, sym, ap, append_assoc}
use Rattle.std.proofs.lemmas.List.{append-nil, take-append-drop}
use Rattle.std.specs.Io.KnownBytes.{Appends, Keeps}
use Rattle.pl_tool.specs.ProgramOutcomes.{AppendsPrefixOf}

-- All of the line but the rest was added to what the writer holds.
pub record IsWrittenUpTo (rest line : List ℕ) (before after : Option (List ℕ)) : Type 0 where
  pub part : List ℕ
  pub is_all : part ++ rest ≡ line
  pub added : Appends before after part

appends_none : (a : Option (List ℕ)) → Appends a a []
appends_none None = tt
appends_none (Some xs) = sym (append-nil xs)

appends_more : (a b c : Option (List ℕ)) (bs cs : List ℕ) → Appends a b bs → Appends b c cs → Appends a c (bs ++ cs)
appends_more None b c bs cs p q = tt
appends_more (Some xs) None c bs cs p q = absurd p
appends_more (Some xs) (Some ys) None bs cs p q = absurd q
appends_more (Some xs) (Some ys) (Some zs) bs cs p q = q ∙ ap (λ (l : List ℕ). l ++ cs) p ∙ append_assoc xs bs cs

pub kept_is_none : (a b : Option (List ℕ)) → Keeps a b → Appends a b []
kept_is_none None b p = tt
kept_is_none (Some xs) None p = absurd p
kept_is_none (Some xs) (Some ys) p = p ∙ sym (append-nil xs)

pub none_written : (line : List ℕ) (a : Option (List ℕ)) → IsWrittenUpTo line line a a
none_written line a = record { part = []; is_all = refl; added = appends_none a }

pub more_written : (rest line : List ℕ) (n : ℕ) (a b c : Option (List ℕ)) → IsWrittenUpTo rest line a b → Appends b c (take n rest) → IsWrittenUpTo (drop n rest) line a c
more_written rest line n a b c w more = record {
  part = w.part ++ take n rest;
  is_all = append_assoc w.part (take n rest) (drop n rest) ∙ ap (λ (l : List ℕ). w.part ++ l) (take-append-drop n rest) ∙ w.is_all;
  added = appends_more a b c w.part (take n rest) w.added more;
}

pub written_part : (rest line : List ℕ) (n : ℕ) (a b c : Option (List ℕ)) → IsWrittenUpTo rest line a b → Appends b c (take n rest) → AppendsPrefixOf line a c
written_part rest line n a b c w more =
    let all = more_written rest line n a b c w more in
    record { part = all.part; begins = (drop n rest, all.is_all); added = all.added }
