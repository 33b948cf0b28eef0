-- What clap finds on a command line is what it requests.
use Rattle.std.proofs.Common.{◌≡◌, ◌∙◌, List, [], ◌∷◌, Bool, false, not, ◌&&◌, map, drop, Option, Some, None, refl, sym, ap, ap₂, codes, Bor, string_bytes, String, Global, IfSome}
use Rattle.std.specs.Prelude.{if◌then◌else◌, option_map, option_and_then, unwrap_or}
use Rattle.std.specs.List.{list_any}
use Rattle.std.specs.Str.{bytes_eq}
use Rattle.clap.proofs.WalkLemmas.{list_any-map, first_value-rows}
use Rattle.clap.specs.Faults.{fault_of}
use Rattle.clap.specs.Kinds.{Kinds}
use Rattle.clap.specs.Matches.{first_value}
use Rattle.clap.specs.Walk.{Row, Text, is_empty, rows_of}
use Rattle.clap.specs.Simple.{subcommand_of}
use Rattle.clap.specs.declared.parser.matches.Found.{Found}
use Rattle.pl_tool.specs.declared.program.command_line.Request.{Request}
use Rattle.pl_tool.specs.ProgramLines.{RequestView, Replay, Run, has_dash, program, queue_named, request_of, request_of_subcommand, request_view}

map_drop : (args : List (String Global)) → map string_bytes (drop 1 args) ≡ drop 1 (map string_bytes args)
map_drop [] = refl
map_drop (w ∷ ws) = refl

has_dash_is : (args : List (String Global)) → list_any (λ w. bytes_eq (codes "-") (string_bytes w)) (drop 1 args) ≡ has_dash (map string_bytes args)
has_dash_is args = list_any-map (bytes_eq (codes "-")) string_bytes (drop 1 args) ∙ ap (list_any (bytes_eq (codes "-"))) (map_drop args)

-- ---- the option of a subcommand

now_or_empty : (got : Option (Bor Text)) (empty : Bor Text) → empty.now ≡ [] → (unwrap_or got empty).now ≡ unwrap_or (option_map (λ t. t.now) got) []
now_or_empty None empty e = e
now_or_empty (Some t) empty e = refl

pub option_value : (got : Option (Bor Text)) (chosen empty : Bor Text) (first : Option Text) → option_map (λ t. t.now) got ≡ first → chosen ≡ unwrap_or got empty → empty.now ≡ []
    → chosen.now ≡ unwrap_or first []
option_value got chosen empty first is chose none =
    ap (λ (t : Bor Text). t.now) chose ∙ now_or_empty got empty none ∙ ap (λ (o : Option Text). unwrap_or o []) is

pub replay_is_requested : (found : Found) (name value : Text) → name ≡ codes "replay" → value ≡ unwrap_or (first_value found (codes "moves")) [] → Some (Replay value) ≡ request_of_subcommand (name, rows_of found)
replay_is_requested found name value is chose = sym (
    ap (λ (n : Text). request_of_subcommand (n, rows_of found)) is
    ∙ ap (λ (o : Option Text). Some (Replay (unwrap_or o []))) (sym (first_value-rows found (codes "moves"))) ∙ ap (λ (t : Text). Some (Replay t)) (sym chose))

pub run_is_requested : (found : Found) (name : Text) (request : Option RequestView) → name ≡ codes "run" → request ≡ option_map Run (option_and_then queue_named (first_value found (codes "queue")))
    → request ≡ request_of_subcommand (name, rows_of found)
run_is_requested found name request is chose =
    chose ∙ ap (λ (o : Option Text). option_map Run (option_and_then queue_named o)) (first_value-rows found (codes "queue"))
    ∙ sym (ap (λ (n : Text). request_of_subcommand (n, rows_of found)) is)

-- ---- the line

-- a line that is read
pub line_is_read : (args : List (String Global)) (dash : Bool) (rows : Option (Text × List Row)) (request : Option Request) → option_map request_view request ≡ option_and_then request_of_subcommand rows
    → rows ≡ subcommand_of program (map string_bytes args) → fault_of program (map string_bytes args) ≡ []
    → dash ≡ list_any (λ w. bytes_eq (codes "-") (string_bytes w)) (drop 1 args) → dash ≡ false → IfSome request (λ r. request_of (map string_bytes args) ≡ Some (request_view r))
line_is_read args dash rows None requested is no_fault dash_is no_dash = tt
line_is_read args dash rows (Some r) requested is no_fault dash_is no_dash =
    ap₂ (λ (b : Bool) (faults : Kinds). if not b && is_empty faults then option_and_then request_of_subcommand (subcommand_of program (map string_bytes args)) else None) (sym (has_dash_is args) ∙ sym dash_is ∙ no_dash) no_fault
    ∙ sym (requested ∙ ap (option_and_then request_of_subcommand) is)
