-- The words of pl_build say of handlers what they say of handlers with the meanings of their stages.
use Rattle.std.proofs.Common.{◌≡◌, ℕ, Bool, not, List, [], ◌∷◌, ◌++◌, map, filter, reverse, Option, Some, None, sym, ap, ap₂, ◌∙◌}
use Rattle.std.specs.Prelude.{nat_le, is_some, if◌then◌else◌, ◌==◌, ◌||◌}
use Rattle.std.proofs.lemmas.List.{length-map}
use Rattle.std.proofs.lemmas.Simd.{map-map}
use Rattle.std.proofs.lemmas.List.Folds.{list_all-map}
use Rattle.pl_event.specs.Meaning.{Meaning}
use Rattle.pl_event.proofs.Lists.{position-map, take_while-map, filter-map, map-reverse, count_by-map}
use Rattle.pl_build.specs.declared.limits.TheConstants.{MAX_HANDLERS}
use Rattle.pl_build.specs.declared.named_stages.NamedStage.{NamedStage}
use Rattle.pl_build.specs.declared.faults.BuildFault.{BuildFault}
use Rattle.pl_build.specs.declared.faults.BuildFault.TheVariants.{DuplicateName, NoSuchName, Limit, NoSuchGroup, NoTurn, TwoTurns}
use Rattle.pl_build.specs.Names.{is_name}
use Rattle.pl_build.specs.Pipelines.{handler_of, is_named, index_of, meanings, is_outbound_stage, is_inbound, is_turn_stage, inbound_handlers, stages_before_turn, outbound_handlers}
use Rattle.pl_build.specs.Refusals.{naming_fault, beside_fault, building_fault, is_known}
use Rattle.pl_build.specs.Executors.{hop_executors, groups_of}
use Rattle.pl_text.specs.SessionBuilding.{meant}

module _ {S : Type 0} (meaning : S → Meaning) where
  -- one handler with what its stage means
  abbrev pub one : NamedStage S → NamedStage Meaning
  one handler = handler_of handler.name handler.group (meaning handler.stage)

  pub index_of-meant : (name : List ℕ) (handlers : List (NamedStage S)) → index_of name (meant meaning handlers) ≡ index_of name handlers
  index_of-meant name handlers = position-map (is_named name) one handlers

  pub naming_fault-meant : (name : List ℕ) (handlers : List (NamedStage S)) → naming_fault name (meant meaning handlers) ≡ naming_fault name handlers
  naming_fault-meant name handlers =
      ap₂ (λ (n : ℕ) (p : Option ℕ). if not (is_name name) || nat_le MAX_HANDLERS n then Some Limit else if is_some p then Some DuplicateName else None)
      (length-map handlers one) (index_of-meant name handlers)

  pub beside_fault-meant : (at name : List ℕ) (handlers : List (NamedStage S)) → beside_fault at name (meant meaning handlers) ≡ beside_fault at name handlers
  beside_fault-meant at name handlers =
      ap₂ (λ (f : Option BuildFault) (p : Option ℕ). if is_some f then f else if is_some p then None else Some NoSuchName)
      (naming_fault-meant name handlers) (index_of-meant at handlers)

  pub groups_of-meant : (handlers : List (NamedStage S)) → groups_of (meant meaning handlers) ≡ groups_of handlers
  groups_of-meant handlers = map-map (λ (h : NamedStage Meaning). h.group) one handlers

  pub meanings-meant : (handlers : List (NamedStage S)) → meanings (λ m. m) (meant meaning handlers) ≡ meanings meaning handlers
  meanings-meant handlers = map-map (λ (h : NamedStage Meaning). h.stage) one handlers

  pub building_fault-meant : (sizes : List (List ℕ × ℕ)) (handlers : List (NamedStage S)) → building_fault (λ m. m) sizes (meant meaning handlers) ≡ building_fault meaning sizes handlers
  building_fault-meant sizes handlers =
      ap₂ (λ (known : Bool) (n : ℕ). if not known then Some NoSuchGroup else if n == 0 then Some NoTurn else if nat_le 2 n then Some TwoTurns else None)
      (list_all-map (λ (h : NamedStage Meaning). is_known sizes h.group) one handlers) (count_by-map (is_turn_stage (λ m. m)) one handlers)

  inbound-meant : (handlers : List (NamedStage S)) → inbound_handlers (λ m. m) (meant meaning handlers) ≡ meant meaning (inbound_handlers meaning handlers)
  inbound-meant handlers = filter-map (is_inbound (λ m. m)) one handlers

  outbound-meant : (handlers : List (NamedStage S)) → outbound_handlers (λ m. m) (meant meaning handlers) ≡ meant meaning (outbound_handlers meaning handlers)
  outbound-meant handlers =
      ap (λ (hs : List (NamedStage Meaning)). reverse (filter (is_outbound_stage (λ m. m)) hs)) (take_while-map (λ (h : NamedStage Meaning). not (is_turn_stage (λ m. m) h)) one handlers)
      ∙ ap (λ (hs : List (NamedStage Meaning)). reverse hs) (filter-map (is_outbound_stage (λ m. m)) one (stages_before_turn meaning handlers))
      ∙ sym (map-reverse one (filter (is_outbound_stage meaning) (stages_before_turn meaning handlers)))

  pub hop_executors-meant : (executor : Option (List ℕ) → ℕ) (handlers : List (NamedStage S)) → hop_executors executor (λ m. m) (meant meaning handlers) ≡ hop_executors executor meaning handlers
  hop_executors-meant executor handlers =
      let by : NamedStage Meaning → ℕ = λ h. executor h.group in
      let fronts = ap (map by) (inbound-meant handlers) ∙ map-map by one (inbound_handlers meaning handlers) in
      let backs = ap (map by) (outbound-meant handlers) ∙ map-map by one (outbound_handlers meaning handlers) in
      ap₂ (λ (s t : List ℕ). s ++ executor None ∷ (t ++ executor None ∷ [])) fronts backs
