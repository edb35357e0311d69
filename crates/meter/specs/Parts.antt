-- What the meter's helpers show of a part of a call.
use Rattle.std.specs.Prelude.{◌≡◌, ℕ, ◌^◌, ◌<◌, ◌≤◌, List, ◌++◌, length, take, drop, Ok, Err, Result}
use Rattle.chip.specs.declared.refusal.Refusal.{Refusal}
use Rattle.chip.specs.Chip.{read}
use Rattle.chip.specs.Datasheet.{Datasheet}
use Rattle.chip.specs.Registers.{number}
use Rattle.wire.specs.Wire.{Goes, Transacted, heard, denied}
use Rattle.account.specs.Calls.{Followed}
use Rattle.account.specs.Dialogue.{Meter, Answer, Way, ready, unfinished, refused, looked, at, closes, sets, gathers}
use Rattle.account.specs.Dialogue as machine
use Rattle.account.specs.History.{scratched}
use Rattle.meter.specs.declared.reading.Reading.{Reading}
use Rattle.meter.specs.Readings.{reading_of}

module _ {W : Type 0} (goes : Goes W) where
  -- a read that was answered, with the number in its bytes
  pub record NumberHeard (u : W) (address count value : ℕ) (w : W) : Type 0 where
    pub bytes : List ℕ
    pub went : Transacted goes u (read address count) (heard bytes) w
    pub is : value ≡ number bytes
    pub bound : value < 256 ^ count

  abbrev pub NumberRead : (u : W) (address count : ℕ) → Result ℕ Refusal → W → Type 0
  NumberRead u a n (Ok x) w = NumberHeard u a n x w
  NumberRead u a n (Err e) w = Transacted goes u (read a n) (denied e) w

  -- a read of a reply, which is then laid on the scratch
  pub record FetchedBytes (u : W) (address count : ℕ) (scratch scratch' copy' : List ℕ) (w : W) : Type 0 where
    pub went : Transacted goes u (read address count) (heard copy') w
    pub scratched : scratch' ≡ copy' ++ drop (length copy') scratch

  abbrev pub Fetched : (u : W) (address count : ℕ) (scratch copy : List ℕ) → Result Unit Refusal → (scratch' copy' : List ℕ) (w : W) → Type 0
  Fetched u a n s p (Ok x) s' p' w = FetchedBytes u a n s s' p' w
  Fetched u a n s p (Err e) s' p' w = Transacted goes u (read a n) (denied e) w × (s' ≡ s) × (p' ≡ p)

  -- from one part of a dialogue to a later one: what follows the later one follows from the earlier one on
  pub record Leads (s : Way) (u : W) (s' : Way) (w : W) : Type 0 where
    pub on : (t' : Meter) (w' : W) (r : Answer) → Followed goes s' w t' w' r → Followed goes s u t' w' r

  -- the settings' writes: done, the REFRESH is next; failed, the draw is unfinished
  abbrev pub SettingsWritten : Datasheet → List (ℕ × List ℕ) → (u : W) → Result Unit Refusal → (w : W) → Type 0
  SettingsWritten m ps u (Ok x) w = (t : Meter) → Leads (sets m t ps) u (closes m t) w
  SettingsWritten m ps u (Err e) w = (t : Meter) → Followed goes (sets m t ps) u (at t unfinished) w (refused e)

  -- the same with a scratch, on which every reply is laid
  pub record Laid (s : Way) (u : W) (a : List ℕ) (t' : Meter) (w : W) (a' : List ℕ) (r : Answer) : Type 0 where
    pub walk : Followed goes s u t' w r
    pub scratch : a' ≡ scratched walk.steps a

  pub record Lays (s : Way) (u : W) (a : List ℕ) (s' : Way) (w : W) (a' : List ℕ) : Type 0 where
    pub on : (t' : Meter) (w' : W) (a'' : List ℕ) (r : Answer) → Laid s' w a' t' w' a'' r → Laid s u a t' w' a'' r

  -- a booking's reads: done, their replies stand in a row; a failed one ends the call
  pub record AllGathered (ps : List (ℕ × ℕ)) (u : W) (a : List ℕ) (n : ℕ) (replies' : List ℕ) (w : W) (a' : List ℕ) : Type 0 where
    pub few : n ≤ 64
    pub lays : (t : Meter) (f : List ℕ → Way) → Lays (gathers t ps f) u a (f (take n replies')) w a'

  abbrev pub Gathered : List (ℕ × ℕ) → (u : W) (a : List ℕ) → Result ℕ Refusal → (replies' : List ℕ) (w : W) (a' : List ℕ) → Type 0
  Gathered ps u a (Ok n) replies' w a' = AllGathered ps u a n replies' w a'
  Gathered ps u a (Err e) replies' w a' = (t : Meter) (f : List ℕ → Way) → Laid (gathers t ps f) u a (at t t.condition) w a' (refused e)

  -- a part of a look that answers: what it read, and how that is shown; the meter stays
  pub record ReadingMade (m : Datasheet) (s : Meter → Way) (u : W) (shown : Reading) (w : W) : Type 0 where
    pub reading : machine.Reading
    pub shows : shown ≡ reading_of m reading
    pub followed : (t : Meter) → Followed goes (s t) u t w (looked reading)

  -- failed, the meter is ready
  abbrev pub SeenSo : Datasheet → (s : Meter → Way) → (u : W) → Result Reading Refusal → (w : W) → Type 0
  SeenSo m s u (Ok x) w = ReadingMade m s u x w
  SeenSo m s u (Err e) w = (t : Meter) → Followed goes (s t) u (at t ready) w (refused e)
