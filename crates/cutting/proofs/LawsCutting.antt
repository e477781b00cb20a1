-- What a take leaves of the held bytes, and how it agrees with the spans of the stream.
use Prim.Native.Nat.{ℕ, suc, ◌+◌, ◌-◌, ◌<◌, ◌≤◌}
use mathlib.Core.Path.{◌≡◌, refl, sym, ap, subst, ◌∙◌}
use mathlib.Core.Bool.{Bool, true, false}
use mathlib.Core.List.{List, [], ◌∷◌, ◌++◌, append_assoc}
use native.Mathlib.Nat.{add-zero}
use native.Mathlib.Omega.{arith}
use lib.Dec.{ltb}
use lib.ListN.{length, take, drop, length-append, take-append-drop}
use lib.Seq.{drop-append_seam, drop-length, drop_at, append_snoc}
use borrow.Author.Tests.{ltb-true, ltb-false, lt-ltb, le-ltb}
use Rattle.base.specs.Outcome.{pick}
use Rattle.held.specs.Spans.{START, END, outside, inside, after, spans}
use Rattle.held.specs.Search.{Seen, no_start, no_end, both, seen, span_of, spot_by, spot_of, sight_by, sight_of}
use Rattle.held.specs.declared.search.Sight.{Sight}
use Rattle.held.specs.declared.search.Sight.TheVariants.{NoStart, NoEnd, Both}
use Rattle.held.proofs.LawsSearch.{Free, free_after, Sees, sees, sight_within, Within}
use Rattle.held.proofs.LawsSpans.{spans_within, Holds, holds, Phase, in_step, lost}
use Rattle.cutting.specs.Cutting.{taken_by, taken_of, moving, goes_of, keeps_of, is_span, cut_of}
use Rattle.cutting.specs.declared.deciding.Cut.{Cut}
use Rattle.std.specs.Prelude.{Option, Some, None}
use Rattle.std.specs.Bool.{then_some}

-- the code's cut, by the sight
abbrev pub cut_by : ℕ → ℕ → Sight → Cut
cut_by limit n NoStart = record { dropped = n; handed = 0; span = false }
cut_by limit n (NoEnd at) = record { dropped = pick (ltb limit (n - at)) n at; handed = 0; span = false }
cut_by limit n (Both at len) = record { dropped = at; handed = len; span = true }

pub cut_sight : (limit : ℕ) (held : List ℕ) (x : Sight) → x ≡ sight_of held → cut_by limit (length held) x ≡ cut_of limit held
unfolding taken_of
cut_sight limit held x e = rw e (go (seen held) (sees held))
  where
    go : (y : Seen) → Sees held y
        → let t = taken_by limit (length held) y in cut_by limit (length held) (sight_by y) ≡ record { dropped = (moving t).dropped; handed = (moving t).handed; span = is_span t.span }
    go no_start f = refl
    go (no_end before rest) f =
        let n : length held - length before ≡ suc (length rest) = omega (arith, simp length-append at (ap length f.0)) in
        rw n
    go (both before between rest) f = refl

-- one for each return of the code
module _ (limit : ℕ) (held : List ℕ) where
  pub cut_no_start : NoStart ≡ sight_of held → record { dropped = length held; handed = 0; span = false } ≡ cut_of limit held
  cut_no_start e = cut_sight limit held NoStart e

  pub cut_long : (at : ℕ) → NoEnd at ≡ sight_of held → limit < length held - at → record { dropped = length held; handed = 0; span = false } ≡ cut_of limit held
  cut_long at e h = rw (lt-ltb limit (length held - at) h) at (cut_sight limit held (NoEnd at) e)

  pub cut_short : (at : ℕ) → NoEnd at ≡ sight_of held → length held - at ≤ limit → record { dropped = at; handed = 0; span = false } ≡ cut_of limit held
  cut_short at e h = rw (le-ltb limit (length held - at) h) at (cut_sight limit held (NoEnd at) e)

  pub cut_both : (at len : ℕ) → Both at len ≡ sight_of held → record { dropped = at; handed = len; span = true } ≡ cut_of limit held
  cut_both at len e = cut_sight limit held (Both at len) e

pub no_end_within : (held : List ℕ) (at : ℕ) → NoEnd at ≡ sight_of held → at ≤ length held
no_end_within held at e = rw (← e) at (sight_within held)

pub ruleset cuts = (no_end_within, cut_no_start, cut_long, cut_short, cut_both)

-- what goes is held
pub goes_within : (limit : ℕ) (held : List ℕ) → goes_of limit held ≤ length held
unfolding taken_of
goes_within limit held = go (seen held) (sight_within held)
  where
    go : (x : Seen) → Within (length held) (sight_by x) → let m = moving (taken_by limit (length held) x) in m.dropped + m.handed ≤ length held
    go no_start k = omega arith
    go (no_end before rest) k = some_go (ltb limit (length (START ∷ rest)))
      where
        some_go : (t : Bool) → pick t (length held) (length before) + 0 ≤ length held
        some_go true = omega arith
        some_go false = omega arith
    go (both before between rest) k = k

-- where the span stands, by what goes
pub spot_cut : (limit : ℕ) (held : List ℕ) → let c = cut_of limit held in then_some c.span (record { at = c.dropped; len = c.handed }) ≡ spot_of held
unfolding taken_of
spot_cut limit held = go (seen held)
  where
    go : (x : Seen) → let t = taken_by limit (length held) x in then_some (is_span t.span) (record { at = (moving t).dropped; len = (moving t).handed }) ≡ spot_by x
    go no_start = refl
    go (no_end before rest) = refl
    go (both before between rest) = refl

-- what stays, by what is seen
abbrev pub keeps_by : ℕ → Seen → List ℕ
keeps_by limit no_start = []
keeps_by limit (no_end before rest) = pick (ltb limit (length (START ∷ rest))) [] (START ∷ rest)
keeps_by limit (both before between rest) = rest

pub keeps_seen : (limit : ℕ) (held : List ℕ) → keeps_of limit held ≡ keeps_by limit (seen held)
unfolding taken_of
keeps_seen limit held = go (seen held) (sees held)
  where
    go : (x : Seen) → Sees held x → let m = moving (taken_by limit (length held) x) in drop (m.dropped + m.handed) held ≡ keeps_by limit x
    go no_start f = rw add-zero (drop-length held)
    go (no_end before rest) f = rw add-zero (stays (ltb limit (length (START ∷ rest))))
      where
        stays : (t : Bool) → drop (pick t (length held) (length before)) held ≡ pick t [] (START ∷ rest)
        stays true = drop-length held
        stays false = rw f.0 (drop-append_seam before (START ∷ rest))
    go (both before between rest) f =
        let e : held ≡ (before ++ span_of between) ++ rest = f.0 ∙ rw (append_assoc, ← append_snoc between END rest) in
        rw e (drop_at (before ++ span_of between) rest _ (length-append before (span_of between)))

-- no span: at most the limit stays
pub keeps_limit : (limit : ℕ) (held : List ℕ) → is_span (taken_of limit held).span ≡ false → length (keeps_of limit held) ≤ limit
unfolding taken_of
keeps_limit limit held = rw (keeps_seen limit held) (go (seen held))
  where
    stays : (rest : List ℕ) (t : Bool) → ltb limit (length (START ∷ rest)) ≡ t → length (pick t [] (START ∷ rest)) ≤ limit
    stays rest true e = omega arith
    stays rest false e = omega (arith, ltb-false)

    go : (x : Seen) → is_span (taken_by limit (length held) x).span ≡ false → length (keeps_by limit x) ≤ limit
    go no_start e = omega arith
    go (no_end before rest) e = stays rest (ltb limit (length (START ∷ rest))) refl
    go (both before between rest) e = let z : ◌≡◌ {A = ℕ} 0 1 = cc in absurd (omega arith)

-- what a take under a limit not below the bound does to the phase of a stream, by its answer
abbrev pub Takes : (bound : ℕ) → List ℕ → List (List ℕ) → Option (List ℕ) → List ℕ → Type 0
Takes bound a left None keeps = (left ≡ []) × Phase bound a keeps []
Takes bound a left (Some s) keeps = (more : List (List ℕ)) × (left ≡ s ∷ more) × Phase bound a keeps more

module _ (bound limit : ℕ) (above : bound ≤ limit) (a h : List ℕ) where
  -- too long from START on, and cleared; or it stays
  cleared : (rest : List ℕ) → Free END rest → (t : Bool) → ltb limit (length (START ∷ rest)) ≡ t → after outside a ≡ inside (START ∷ rest) → Phase bound a (pick t [] (START ∷ rest)) []
  cleared rest f true e p = lost refl (START ∷ rest) p (omega (arith, ltb-true)) tt
  cleared rest f false e p = let w = spans_within (START ∷ []) rest f in in_step (sym w.gives) (p ∙ sym w.place)

  taken_in_step : (x : Seen) → Sees h x → Holds h x → {left : List (List ℕ)} → left ≡ spans h → after outside a ≡ after outside h → Takes bound a left (taken_by limit (length h) x).span (keeps_by limit x)
  taken_in_step no_start f k l p = (l ∙ k.gives, in_step refl (p ∙ k.place))
  taken_in_step (no_end before rest) f k l p = (l ∙ k.gives, cleared rest f.2 (ltb limit (length (START ∷ rest))) refl (p ∙ k.place))
  taken_in_step (both before between rest) f k l p = (spans rest, l ∙ k.0, in_step refl (p ∙ k.1))

  -- lost, there is no END, so that no span goes
  taken_lost : (x : Seen) → Sees h x → Free END h → {left : List (List ℕ)} → left ≡ [] → (keeps : List ℕ) → Phase bound a keeps [] → Takes bound a left (taken_by limit (length h) x).span keeps
  taken_lost no_start f e l keeps p = (l, p)
  taken_lost (no_end before rest) f e l keeps p = (l, p)
  taken_lost (both before between rest) f e l keeps p =
      let q : true ≡ false = (free_after END (before ++ (START ∷ between)) (END ∷ rest) (rw (f.0 ∙ sym (append_assoc before (START ∷ between) (END ∷ rest))) at e)).0 in
      let z : ◌≡◌ {A = ℕ} 0 1 = cc in absurd (omega arith)

  taken_phase : {left : List (List ℕ)} → Phase bound a h left → Takes bound a left (taken_of limit h).span (keeps_of limit h)
  unfolding taken_of
  taken_phase (in_step l p) = rw (keeps_seen limit h) (taken_in_step (seen h) (sees h) (holds h (seen h) (sees h)) l p)
  taken_phase (lost l s p n f) =
      let g = goes_of limit h in
      taken_lost (seen h) (sees h) f l (keeps_of limit h) (lost refl s p n (free_after END (take g h) (drop g h) (rw take-append-drop f)))

  pub taking : {left : List (List ℕ)} {o : Option (List ℕ)} → (taken_of limit h).span ≡ o → Phase bound a h left → Takes bound a left o (keeps_of limit h)
  taking {left} e p = subst (λ (x : Option (List ℕ)). Takes bound a left x (keeps_of limit h)) e (taken_phase p)
