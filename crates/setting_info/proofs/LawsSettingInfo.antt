-- Laws of the setting texts: where the summary stands, and the length of a payload that both fill.
use Prim.Native.Nat.{ℕ, ◌+◌}
use mathlib.Core.Path.{◌≡◌, refl, ap}
use mathlib.Core.Bool.{true}
use mathlib.Core.List.{List}
use native.Mathlib.Omega.{arith}
use lib.Dec.{eqb, leb}
use lib.ListN.{get_or}
use Rattle.base.specs.Outcome.{Outcome}
use Rattle.reading.specs.Message.{body_at}
use Rattle.reading.specs.Items.{walk, length_by}
use Rattle.reading.proofs.LawsItems.{own_headed}
use Rattle.reading.proofs.LawsReading.{OneLength, one_length, steady_so_many, Whole, Causes, causes, whole_accepted, whole_19, whole_pick}
use Rattle.text.specs.Text.{characters_of}
use Rattle.setting_info.specs.SettingInfo.{name_at, summary_at, bytes_at, where_text, info_items, info_contents, info_of}
use Rattle.std.specs.Prelude.{Option, Some, None, Ok, Err, ok_or}
use Rattle.base.specs.declared.refusal.Refusal.{Refusal}

pub info_length : OneLength info_of
unfolding info_of
info_length = one_length _ _ _ (steady_so_many 4 2 (own_headed 0) 0)

text_whole : {A : Type 0} (c : Option ℕ) {on : ℕ → Outcome A} → ((n : ℕ) → Whole (on n)) → Whole (where_text c on)
text_whole (Some n) w = w n
text_whole None w = record { kind = λ e. let z : ◌≡◌ {A = ℕ} 23 25 = cc in absurd (omega arith); length = λ e. let z : ◌≡◌ {A = ℕ} 23 26 = cc in absurd (omega arith) }

pub info_causes : Causes (λ kind. true) info_items info_of
unfolding info_of info_contents
info_causes = causes _ _ _ (λ p s. whole_pick (eqb (body_at p 0) 0x00) (whole_pick (leb (body_at p 1) 0x01) (text_whole (characters_of (bytes_at p name_at)) (λ n. text_whole (characters_of (bytes_at p (summary_at p))) (λ m. whole_accepted _))) whole_19) whole_19)

-- where the summary's length byte stands, and the length of a payload that has both texts
abbrev summary_place : List ℕ → ℕ
summary_place p = 5 + get_or p 4 0

abbrev pub whole_length : List ℕ → ℕ
whole_length p = summary_place p + 1 + get_or p (summary_place p) 0

module _ (p : List ℕ) where
  pub summary_place_lem : summary_at p ≡ summary_place p
  unfolding walk
  summary_place_lem = omega arith

  pub whole_length_lem : length_by (info_items p) p ≡ whole_length p
  unfolding walk
  whole_length_lem =
      let e : 4 + (1 + get_or p 4 0) + 0 ≡ summary_place p = omega arith in
      omega (arith, ap (λ (at : ℕ). get_or p at 0) e)

-- what may be absent, by what it is as an answer
pub was_none : (c : Option ℕ) (e : Refusal) {f : Refusal} → ok_or c e ≡ Err f → (c ≡ None) × (f ≡ e)
was_none None e h = (refl, cc)
was_none (Some n) e h = let z : ◌≡◌ {A = ℕ} 0 1 = cc in absurd (omega arith)

pub was_some : (c : Option ℕ) (e : Refusal) {n : ℕ} → ok_or c e ≡ Ok n → c ≡ Some n
was_some None e h = let z : ◌≡◌ {A = ℕ} 0 1 = cc in absurd (omega arith)
was_some (Some n) e h = cc
