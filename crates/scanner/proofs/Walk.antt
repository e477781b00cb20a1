-- Steps of a walk through a `&mut` to a struct of plain data, and the names that such a walk writes. R is the struct's row, vals its machine values.
pub use mathlib.Core.Path.{◌≡◌, refl, ap}
pub use mathlib.Core.List.{List, [], ◌∷◌, ◌++◌}
pub use Prim.Native.Nat.{ℕ}
pub use lib.ListN.{length}
pub use seplogic.Ra.Ura.{Ura}
pub use base.Fraction.{full_share}
pub use mir.Syntax.{named}
pub use mir.Val.{Val}
pub use base.Logic.{SProp, ent, emp, id⊢, via, fst∗}
pub use base.Fml.{ftrue, fat, flft, fobs, fbor}
pub use prog.Memory.{Memory}
pub use prog.Routine.{Routine}
pub use prog.Wp.{Heap, Calls, Loops, WpFn, Tables}
pub use ghost.Atoms.{Atoms}
use types.Logic.{Logic}
pub use contract.Monad.{Fun, fact}
pub use contract.Running.{tables}
unfoldable pub use contract.Running.{tables_of}
pub use contract.Lifetimes.{Lfts, Shares}
pub use types.Kit.{Item, ‵, raw, some, later, ◌⊛◌, ⋆, ◌$◌, ◌∵◌, !, qed, by, move, drop, use1, use2, split, join, pick, rewrite, fsplit, fsplit3, fjoin, fjoin3, feq_l, feq_i, suffices, frame, await, done}
pub use types.Run.{look, look_raw, store_raw, init, stop, hop, fld, from, load, addr, of_opd, and_then, no_more, assigns, land, returns, enter, alloc1, alloc0, params1, pass1, pass0, free0}
pub use types.Part.{agg, whole, sub, look_in}
pub use types.SemTy.{Body}
pub use sound.WpLaws.{FmC, fm_of, WpFn-mono}
pub use denote.RattleType.{owns}
pub use denote.Memory.{mem}
pub use denote.Laws.{Is, shows}
pub use denote.Shadow.{pure_i}
pub use denote.Builtin.{u8}
pub use denote.Ref.{Bor, MutBor, MutRef, shr_vals, mut_vals, mut_Tells}
pub use denote.Slice.{MutSlice, ShrSlice, Room, finally, shr_slice_vals, mut_slice_vals, mut_slice_Tells, shr_slice_Tells}
pub use denote.Steps.{only, owned, facts, nothing}
pub use denote.Triple.Entry.{on_entry}
pub use denote.Triple.Spec.{Meets, triple_of}
pub use denote.Triple.Statement.{Contract, Triple}
pub use denote.Triple.Call.{calls_at}
pub use denote.Triple.Clauses.{ensured, lasts}
pub use denote.Triple.Table.{entered, cited}
pub use denote.Triple.Walked.{Stays, stay_ref, gave_slice, stay_dropped, walk_of, Goes-ref, Goes-gave_slice, Goes-dropped, ends_at, walked, walk_Meets}
pub use denote.Exit.{yes}
pub use denote.Signature.{plain, shr_slice_of}
use Prim.Native.Nat.{zero}
use mir.Syntax.{Ty}
use base.Logic.{sep, comm∗, emp∗, mono_l}
use base.Stored.{Gv}
use base.Fml.{Lft, GName, Share, fdies, fauth, fobor}
use prog.Wp.{Env}
use types.Kit.{Goal, frees, prop, Soaks, Step, step, Seq}
use types.Run.{forget, free1}
use contract.Monad.{fact_i}
use denote.RattleType.{RattleType}
use denote.Laws.{Tells, Makes}
use denote.Memory.{cell_at}
use denote.Steps.{heard, opens, closes}
use denote.Struct.Steps.{spelt}

module _ {M : Type 1} {𝓤 : Ura M} {𝓛 : Logic 𝓤} {K : Type 0} {Γ : List (Item 𝓤)} where
  open 𝓛 use {H}

  module _ {G : Goal 𝓤 H} where
    -- the borrow is opened: the cell at its machine values, and that they are those of what is lent
    pub lent_opens : K → Soaks G → (R : RattleType) (vals : R.Denot → List Val) → Tells R (Is R) vals → {κ : Lft} {q : Share} {γ : GName} (h : R.Denot) (b o : ℕ)
        → (Is R h (vals h) → Seq K 𝓛 (‵ (cell_at full_share R.mir (vals h) b o) ∷ ‵ (fobor κ q (Body (mem R) b o γ)) ∷ ‵ (fobs γ (R.coded.code h)) ∷ ‵ (fauth γ (R.coded.code h)) ∷ Γ) G)
        → Seq K 𝓛 (‵ (fobs γ (R.coded.code h)) ∷ ‵ (fbor κ (Body (mem R) b o γ)) ∷ ‵ (flft κ q) ∷ Γ) G
    lent_opens t z R vals told h b o then =
        opens t z R {h = h} b o (λ vs. spelt t R (Is R) (shows 𝓛 R) vals told full_share h vs b o $ move t (1 ∷ []) $ facts t R (Is R) (shows 𝓛 R) h (vals h) then)

    -- the borrow is closed at what lies there now
    pub lent_closes : K → Soaks G → (R : RattleType) → Makes 𝓛 R (Is R) → {κ : Lft} {q : Share} {u v : Gv} {γ : GName} (h : R.Denot) (vs : List Val) → Is R h vs → (b o : ℕ)
        → Step K 𝓛 (‵ (fobs γ (R.coded.code h)) ∷ ‵ (fbor κ (Body (mem R) b o γ)) ∷ ‵ (flft κ q) ∷ Γ) G
        (‵ (cell_at full_share R.mir vs b o) ∷ ‵ (fobor κ q (Body (mem R) b o γ)) ∷ ‵ (fobs γ u) ∷ ‵ (fauth γ v) ∷ Γ) G
    lent_closes t z R makes h vs is b o = step (λ s. owned t R (Is R) makes h vs is $ move t (1 ∷ 0 ∷ []) $ closes t z R h vs b o $ s)

    -- what a callee's three `ensures` say
    pub heard3 : K → (φ ψ χ : Type 0) → (φ → ψ → χ → Seq K 𝓛 Γ G) → Seq K 𝓛 ((raw (fact 𝓤 φ) ⊛ (raw (fact 𝓤 ψ) ⊛ raw (fact 𝓤 χ))) ∷ Γ) G
    heard3 t φ ψ χ then = split t $ heard t φ (λ a. split t $ heard t ψ (λ b. heard t χ (λ c. then a b c)))

  -- three `ensures` are shown
  pub says3 : K → {φ ψ χ : Type 0} {P : SProp 𝓤} → φ → ψ → χ → Step K 𝓛 Γ (prop P) Γ (prop (sep 𝓤 P (sep 𝓤 (fact 𝓤 φ) (sep 𝓤 (fact 𝓤 ψ) (fact 𝓤 χ)))))
  says3 t {φ} {ψ} {χ} {P} a b c =
      let both : SProp 𝓤 = sep 𝓤 (fact 𝓤 ψ) (fact 𝓤 χ) in
      let all : SProp 𝓤 = sep 𝓤 (fact 𝓤 φ) both in
      let beside : (ξ : Type 0) (Q : SProp 𝓤) → ξ → ent 𝓤 Q (sep 𝓤 (fact 𝓤 ξ) Q) = λ ξ Q x. via 𝓤 (sep 𝓤 (emp 𝓤) Q) (emp∗ 𝓤 Q) (mono_l 𝓤 Q (fact_i 𝓤 ξ (emp 𝓤) x)) in
      let said : ent 𝓤 (emp 𝓤) all = via 𝓤 (fact 𝓤 χ) (fact_i 𝓤 χ (emp 𝓤) c) (via 𝓤 both (beside ψ (fact 𝓤 χ) b) (beside φ both a)) in
      step (λ s. record { prf = via 𝓤 P s.prf (via 𝓤 (sep 𝓤 (emp 𝓤) P) (emp∗ 𝓤 P) (via 𝓤 (sep 𝓤 all P) (mono_l 𝓤 P said) (comm∗ 𝓤 all P))) })

  -- a local is freed, whatever it holds
  pub gone : K → {τ : Ty} {b : ℕ} {v : Val} {E : Env 𝓤 H} {g : Goal 𝓤 H} → Step K 𝓛 Γ (frees E g) (‵ (fat full_share τ b zero v) ∷ ‵ (fdies τ b) ∷ Γ) (frees ((τ, b) ∷ E) g)
  gone t = step (λ s. forget t 0 refl $ free1 t $ s)
