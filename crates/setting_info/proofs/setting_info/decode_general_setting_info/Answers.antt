use Prim.Native.Nat.{ℕ, ◌+◌, ◌-◌, ◌≤◌}
use mathlib.Core.Path.{◌≡◌, refl, sym, ◌∙◌}
use mathlib.Core.List.{List}
use native.Mathlib.Nat.{add-sub_cancel_left}
use native.Mathlib.Omega.{arith}
use lib.ListN.{length, get_or, take, drop}
use borrow.Author.Tests.{eq-eqb, ne_eqb, le-leb, lt-leb}
use Rattle.reading.specs.Message.{body_at}
use Rattle.reading.proofs.LawsReading.{read_short, wrong_length, right_length}
use Rattle.text.specs.Text.{characters_of}
use Rattle.setting_info.specs.SettingInfo.{name_at, summary_at, bytes_at, checked_texts, info_contents, info_of}
use Rattle.std.proofs.Common.{rules}
use Rattle.base.specs.Refusal.{refusal_told, outcome_of}
use Rattle.setting_info.proofs.LawsSettingInfo.{was_none, was_some, summary_place_lem, whole_length, whole_length_lem}
use Rattle.setting_info.proofs.setting_info.decode_general_setting_info.Goals as goal
use Rattle.std.specs.Prelude.{Option}

-- both texts fill the payload: the contents decide
module _ (p : List ℕ) (long : 2 ≤ length p) (whole : length p ≡ whole_length p) where
  fits : info_of p ≡ info_contents p
  unfolding info_of
  fits = right_length _ _ _ _ (whole_length_lem p) long refl whole

  -- the form is that of setting texts: these decide
  formed : body_at p 0 ≡ 0x00 → body_at p 1 ≤ 0x01 → info_of p ≡ checked_texts p
  unfolding info_contents
  formed none format = rw (fits, eq-eqb _ _ none, le-leb _ _ format)

  name_told : {k : (Option ℕ)} → k ≡ characters_of (take (5 + get_or p 4 0 - 5) (drop 5 p)) → characters_of (bytes_at p name_at) ≡ k
  name_told e = sym (rw add-sub_cancel_left at e)

  summary_told : {k : (Option ℕ)} → k ≡ characters_of (take (length p - (5 + get_or p 4 0 + 1)) (drop (5 + get_or p 4 0 + 1) p)) → characters_of (bytes_at p (summary_at p)) ≡ k
  summary_told e =
      let l : length p - (5 + get_or p 4 0 + 1) ≡ get_or p (5 + get_or p 4 0) 0 = omega arith in
      rw (summary_place_lem p) (sym (rw l at e))

pub returns-then-len-lt2 : goal.returns-then-len-lt2
unfolding info_of
returns-then-len-lt2 c = sym (read_short _ _ _ _ c.if-len-lt2.true)

pub returns-then-len-lt6 : goal.returns-then-len-lt6
unfolding info_of
returns-then-len-lt6 c = sym (wrong_length _ _ _ _ (whole_length_lem _) c.if-len-lt2.false refl (λ e. omega arith))

pub returns-then-len-name_end : goal.returns-then-len-name_end
unfolding info_of
returns-then-len-name_end c = sym (wrong_length _ _ _ _ (whole_length_lem _) c.if-len-lt2.false refl (λ e. omega arith))

pub returns-then-len-summary : goal.returns-then-len-summary
unfolding info_of
returns-then-len-summary c = sym (wrong_length _ _ _ _ (whole_length_lem _) (omega arith) refl (λ e. omega arith))

pub returns-then-payload-ne-GS_BOOLEAN_TYPE : goal.returns-then-payload-ne-GS_BOOLEAN_TYPE
unfolding info_contents
returns-then-payload-ne-GS_BOOLEAN_TYPE c =
    let p = c.args.payload.now in
    rw (fits p (omega arith) (omega arith), ne_eqb _ _ c.if-payload-ne-GS_BOOLEAN_TYPE.true)

pub returns-then-payload-gt-GS_ENUM_NAME : goal.returns-then-payload-gt-GS_ENUM_NAME
unfolding info_contents
returns-then-payload-gt-GS_ENUM_NAME c =
    let p = c.args.payload.now in
    rw (fits p (omega arith) (omega arith), eq-eqb _ _ c.if-payload-ne-GS_BOOLEAN_TYPE.false, lt-leb _ _ c.if-payload-gt-GS_ENUM_NAME.true)

pub returns-in_err-name_characters : goal.returns-in_err-name_characters
returns-in_err-name_characters c =
    let p = c.args.payload.now in
    let long : 2 ≤ length p = omega arith in
    let whole : length p ≡ whole_length p = omega arith in
    let w = was_none _ _ (sym c.ok_or.ensures.value ∙ c.in_err-name_characters.was) in
    let t : outcome_of c.from_residual.result ≡ refusal_told c.in_err-name_characters.field-0.0 = search rules in
    t ∙ rw (w.1, formed p long whole c.if-payload-ne-GS_BOOLEAN_TYPE.false c.if-payload-gt-GS_ENUM_NAME.false, name_told p long whole c.count_characters.ensures ∙ w.0)

pub returns-in_err-summary_characters : goal.returns-in_err-summary_characters
returns-in_err-summary_characters c =
    let p = c.args.payload.now in
    let long : 2 ≤ length p = omega arith in
    let whole : length p ≡ whole_length p = omega arith in
    let name = was_some _ _ (sym c.ok_or.ensures.value ∙ c.in_ok-name_characters.was) in
    let w = was_none _ _ (sym c.ok_or-2.ensures.value ∙ c.in_err-summary_characters.was) in
    let t : outcome_of c.from_residual-in_err-summary_characters.result ≡ refusal_told c.in_err-summary_characters.field-0.0 = search rules in
    t ∙ rw (w.1, formed p long whole c.if-payload-ne-GS_BOOLEAN_TYPE.false c.if-payload-gt-GS_ENUM_NAME.false, name_told p long whole c.count_characters.ensures ∙ name, summary_told p long whole c.count_characters-2.ensures ∙ w.0)

pub returns : goal.returns
returns c =
    let p = c.args.payload.now in
    let long : 2 ≤ length p = omega arith in
    let whole : length p ≡ whole_length p = omega arith in
    let name = was_some _ _ (sym c.ok_or.ensures.value ∙ c.in_ok-name_characters.was) in
    let summary = was_some _ _ (sym c.ok_or-2.ensures.value ∙ c.in_ok-summary_characters.was) in
    rw (formed p long whole c.if-payload-ne-GS_BOOLEAN_TYPE.false c.if-payload-gt-GS_ENUM_NAME.false, name_told p long whole c.count_characters.ensures ∙ name, summary_told p long whole c.count_characters-2.ensures ∙ summary, summary_place_lem)
