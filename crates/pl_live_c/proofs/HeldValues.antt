-- The machine values of a `Held`, and what it owns, taken apart and put together. Assumes `Logic`.
use Rattle.std.proofs.Common.{◌≡◌, ℕ, List, [], ◌∷◌, ◌++◌, refl, subst, lit<, Option, Some, None}
use seplogic.Ra.Ura.{Ura}
use mir.Syntax.{impl, tnil, dnil}
use mir.Raw.{raw as bare}
use mir.Val.{Val, vptr, vnull, vstruct, of_list, has_ty}
use base.Logic.{guard_i}
use base.Fml.{fsep, feq}
use types.Logic.{Logic, sem}
use types.Kit.{Item, Goal, Seq, Step, step, ‵, given, ◌$◌, move, drop, use1, learn, fsplit, fjoin, fpick, fpack, feq_i, feq_l}
use contract.Monad.{fact_use}
use denote.RattleType.{RattleType, Valss}
use denote.Builtin.{RawPtr}
use denote.Memory.{lone}
use denote.RawPtr.{Ptr, block_ptr, null_ptr, ptr_val, Testable}
use denote.Steps.{nothing}
use denote.Param.{layout}
use denote.Struct.Struct.{within}
use denote.Struct.Owning.{shape, to}
use Rattle.std.proofs.alloc.Calls.{Al, handle_tells}
use Rattle.std.proofs.cell.Inside.{Good}
use Rattle.std.proofs.ResultValues.{and_tt}
use Rattle.std.proofs.GlobalToken.{dealloc_token-Testable}
use Rattle.std.specs.Box.Ownership.{box_owns}
use Rattle.std.specs.declared.alloc.Global.{Global}
use Rattle.std.specs.contracts.alloc.Global as heap
use Rattle.std.proofs.alloc.Global.TheLaws as heap_laws
use Rattle.std.specs.contracts.impls.GlobalAllocator.TheImpl.{ghosts}
use Rattle.pl_live_c.specs.contracts.channels.Channel as channel
use Rattle.pl_live_c.specs.contracts.held.Held as held_struct
use Rattle.pl_live_c.specs.Holding.{holds}
use Rattle.pl_live_c.proofs.BoxPartsValues.{both}

abbrev pub X : Type 0
X = (channel.the_row).Denot

abbrev pub Z : RattleType
Z = heap.the_row

abbrev pub Held : RattleType
Held = held_struct.the_row

abbrev al : Al
al = record { row = Z; laws = heap_laws.the_row_laws; g = ghosts; d = impl [] tnil dnil; drops = impl [] tnil dnil }

pub null_good : (h : Val) → Good (layout Z) h → Good (layout Held) (both vnull h)
null_good h fits = (and_tt (has_ty (layout Z) h) fits.0, (record { fits = lit< tt }, (fits.1, tt)))

pub block_good : (b o : ℕ) (h : Val) → Good (layout Z) h → Good (layout Held) (both (vptr b o) h)
block_good b o h fits = (and_tt (has_ty (layout Z) h) fits.0, (tt, (fits.1, tt)))

module _ {M : Type 1} {𝓤 : Ura M} {𝓛 : Logic 𝓤} {K : Type 0} {Γ : List (Item 𝓤)} {G : Goal 𝓤 𝓛.H} where
  -- the allocator is one machine value
  pub heap_tells : K → (a : Global) (vs : List Val) → ((h : Val) → vs ≡ h ∷ [] → Good (layout Z) h → Seq K 𝓛 (‵ (Z.own_val a (h ∷ [])) ∷ Γ) G) → Seq K 𝓛 (‵ (Z.own_val a vs) ∷ Γ) G
  heap_tells t a vs k = handle_tells al t a vs k

module _ {M : Type 1} {𝓤 : Ura M} {𝓛 : Logic 𝓤} {K : Type 0} {Γ : List (Item 𝓤)} {G : Goal 𝓤 𝓛.H} where
  -- what is held: none at null, and else a box, whose address may be compared with null
  pub either_held : K → (a : Global) (p : Ptr) (held : Option X) → (p ≡ null_ptr → held ≡ None → Seq K 𝓛 Γ G)
      → ((b o : ℕ) (x : X) → p ≡ block_ptr b o → held ≡ Some x → Testable (block_ptr b o) → Seq K 𝓛 (‵ (box_owns (ghosts.dealloc_token a) channel.the_row (block_ptr b o) x) ∷ Γ) G)
      → Seq K 𝓛 (‵ (holds a p held) ∷ Γ) G
  either_held t a null_ptr held none one = feq_l t (λ e. none refl e)
  either_held t a (block_ptr b o) held none one =
      let p : Ptr = block_ptr b o in let τ = bare (lone channel.the_row.mir) in let free = ghosts.dealloc_token a τ p in
      fpick t (λ x. fsplit t $ feq_l t (λ e. fsplit t $ move t (1 ∷ []) $
      use1 𝓛 (given (Testable p) (‵ free)) (fact_use 𝓤 _ (dealloc_token-Testable 𝓛 a τ p) (guard_i 𝓤 (Testable p) (sem 𝓛 free))) $ learn t (λ test.
      move t (1 ∷ []) $ fjoin t $ one b o x refl e test)))

  -- it by value
  pub held_out : K → (d : Held.Denot) (vs : List Val)
      → ((h : Val) → vs ≡ both (ptr_val d.at) h ∷ [] → Good (layout Z) h → Seq K 𝓛 (‵ (holds d.alloc d.at d.channel) ∷ ‵ (Z.own_val d.alloc (h ∷ [])) ∷ Γ) G)
      → Seq K 𝓛 (‵ (Held.own_val d vs) ∷ Γ) G
  held_out t d vs k =
      fsplit t $ fpick t (λ vss. fsplit t $ feq_l t (λ ev. fsplit t $ feq_l t (λ ep. fsplit t $ heap_tells t d.alloc vss.1.0 (λ h ea fits. move t (1 ∷ []) $ drop t $ move t (1 ∷ []) $
      k h (subst (λ (ws : List Val). vs ≡ vstruct (of_list (ptr_val d.at ∷ (ws ++ []))) ∷ []) ea (subst (λ (ps : List Val). vs ≡ vstruct (of_list (ps ++ (vss.1.0 ++ []))) ∷ []) ep ev)) fits))))

  pub held_in : K → (p : Ptr) (h : Val) (a : Global) (held : Option X)
      → Step K 𝓛 (‵ (Held.own_val (record { at = p; alloc = a; channel = held }) (both (ptr_val p) h ∷ [])) ∷ Γ) G (‵ (holds a p held) ∷ ‵ (Z.own_val a (h ∷ [])) ∷ Γ) G
  held_in t p h a held = step (λ s. let v : Val = both (ptr_val p) h in
      nothing t $ move t (2 ∷ 0 ∷ []) $ fjoin t $ feq_i t (List Val) (ptr_val p ∷ []) (ptr_val p ∷ []) refl $ fjoin t $ feq_i t (List Val) (v ∷ []) (v ∷ []) refl $ fjoin t $
      fpack t (Valss (RawPtr ∷ Z ∷ [])) (within (shape held_struct.the_type) (to held_struct.the_type (record { at = p; alloc = a; channel = held })) (v ∷ [])) (ptr_val p ∷ [], (h ∷ [], tt)) $ fjoin t $ s)

  pub holds_none : K → (a : Global) → Step K 𝓛 (‵ (holds a null_ptr None) ∷ Γ) G Γ G
  holds_none t a = step (λ s. feq_i t (Option X) None None refl $ s)

  pub holds_some : K → (a : Global) (b o : ℕ) (x : X) → Step K 𝓛 (‵ (holds a (block_ptr b o) (Some x)) ∷ Γ) G (‵ (box_owns (ghosts.dealloc_token a) channel.the_row (block_ptr b o) x) ∷ Γ) G
  holds_some t a b o x = step (λ s. feq_i t (Option X) (Some x) (Some x) refl $ fjoin t $
      fpack t X (λ y. fsep (feq (Option X) (Some x) (Some y)) (box_owns (ghosts.dealloc_token a) channel.the_row (block_ptr b o) y)) x $ s)
