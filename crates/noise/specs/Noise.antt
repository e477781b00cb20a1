-- 01, "Messages and decoders": `decode_noise`.
use Rattle.std.specs.Prelude.{ℕ, Bool, false, List, eqb, Option, Some, None}
use Rattle.base.specs.Outcome.{Outcome, accepted, pick}
use Rattle.reading.specs.Message.{body_at, byte_at}
use Rattle.reading.specs.Reading.{Layout, layout, no_layout, layout_reading}
use Rattle.noise.specs.declared.noise.NoiseMode.{NoiseMode}
use Rattle.noise.specs.declared.noise.NoiseMode.TheVariants.{Off, Anc, Ambient}
use Rattle.noise.specs.declared.noise.NoiseReport.{NoiseReport}
use Rattle.noise.specs.declared.noise.Fields.{Fields}

-- "mode `00`, or where there is no mode byte switch `01`, gives Anc"
abbrev pub cancelling_of : Option ℕ → Option ℕ → Bool
cancelling_of (Some mode) switch = eqb mode 0x00
cancelling_of None (Some switch) = eqb switch 0x01
cancelling_of None None = false

-- "else Ambient if the layout has an ambient byte, else Off"
abbrev else_of : Option ℕ → NoiseMode
else_of (Some ambient) = Ambient
else_of None = Off

-- "Effect off gives Off. Otherwise .."
abbrev pub mode_of : ℕ → Bool → Option ℕ → NoiseMode
mode_of effect cancelling ambient = pick (eqb effect 0x01) (pick cancelling Anc (else_of ambient)) Off

-- "yes only for `01`"
abbrev pub flag_of : Option ℕ → Option Bool
flag_of (Some b) = Some (eqb b 0x01)
flag_of None = None

-- "body 0 is settled, body 1 the total effect, yes only for `01`"; the mode byte is kept, whatever the mode
abbrev pub noise_report : List ℕ → Fields → Outcome NoiseReport
noise_report p f =
    accepted (record {
      mode = mode_of (body_at p 1) (cancelling_of f.mode f.switch) f.ambient;
      mode_byte = f.mode;
      ambient_level = f.level;
      focus_on_voice = flag_of f.ambient;
      settled = eqb (body_at p 0) 0x01;
      adaptive = flag_of f.adaptive;
      adaptive_sensitivity = f.sensitivity;
    })

-- "`15`, `17` (length 7) mode 2, ambient 3, level 4; `19` (9) also adaptive 5, sensitivity 6"
abbrev pub full_of : List ℕ → Option ℕ → Option ℕ → Outcome NoiseReport
full_of p adaptive sensitivity = noise_report p (record { mode = byte_at p 2; switch = None; ambient = byte_at p 3; level = byte_at p 4; adaptive = adaptive; sensitivity = sensitivity })

-- "`22` (6) ambient 2, level 3"
abbrev pub ambient_only_of : List ℕ → Outcome NoiseReport
ambient_only_of p = noise_report p (record { mode = None; switch = None; ambient = byte_at p 2; level = byte_at p 3; adaptive = None; sensitivity = None })

-- "`13` (7) switch 2, ambient 3, level 4"
abbrev pub switch_and_ambient_of : List ℕ → Outcome NoiseReport
switch_and_ambient_of p = noise_report p (record { mode = None; switch = byte_at p 2; ambient = byte_at p 3; level = byte_at p 4; adaptive = None; sensitivity = None })

-- "`01` (5) switch 2"
abbrev pub switch_only_of : List ℕ → Outcome NoiseReport
switch_only_of p = noise_report p (record { mode = None; switch = byte_at p 2; ambient = None; level = None; adaptive = None; sensitivity = None })

-- a kind's length and layout
unfoldable pub noise_layout : ℕ → Layout NoiseReport
noise_layout kind =
    pick (eqb kind 0x15) (layout 7 (λ p. full_of p None None)) (
    pick (eqb kind 0x17) (layout 7 (λ p. full_of p None None)) (
    pick (eqb kind 0x19) (layout 9 (λ p. full_of p (byte_at p 5) (byte_at p 6))) (
    pick (eqb kind 0x22) (layout 6 ambient_only_of) (
    pick (eqb kind 0x13) (layout 7 switch_and_ambient_of) (
    pick (eqb kind 0x01) (layout 5 switch_only_of) (
    no_layout))))))

-- `decode_noise`
unfoldable pub noise_of : List ℕ → Outcome NoiseReport
noise_of = layout_reading noise_layout
