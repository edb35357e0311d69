-- What a make owes.
use Rattle.std.specs.Prelude.{◌≡◌, ℕ, ◌+◌, ◌-◌, ◌%◌, ◌^◌, ◌<◌, ◌≤◌, Bool, true, false, cond, List, [], ◌∷◌, ◌++◌, length, pos, Some, None, Option, ◌==◌}
use Rattle.chip.specs.declared.state.Channel.{Channel}
use Rattle.chip.specs.declared.state.Codes.{Codes}
use Rattle.chip.specs.declared.state.Held.{Held}
use Rattle.chip.specs.declared.state.Running.{Running}
use Rattle.chip.specs.declared.state.Settings.{Settings}
use Rattle.chip.specs.declared.state.State.{State}
use Rattle.chip.specs.Chip.{Request, channel, cycled, does, entry_of, fresh_chip, reacts, reply}
use Rattle.chip.specs.Datasheet.{Datasheet, Wanted, meaning}
use Rattle.chip.specs.Registers.{number}

abbrev pub Every : {A : Type 0} → (A → Type 0) → List A → Type 0
Every P [] = Unit {0}
Every P (x ∷ xs) = P x × Every P xs

-- the sums of channels from n on are 0
abbrev pub EmptyFrom : (n i : ℕ) → List Channel → Type 0
EmptyFrom n i [] = Unit {0}
EmptyFrom n i (c ∷ cs) = (n ≤ i → c.sum ≡ 0) × EmptyFrom n (i + 1) cs

-- registers hold what fits them
pub record Sound (m : Datasheet) (r : Running) : Type 0 where
  pub four : length r.channels ≡ 4
  pub count : r.count < 2 ^ m.count_bits
  pub sums : Every (λ c. c.sum < 2 ^ m.sum_bits) r.channels
  pub rest : EmptyFrom m.channels 0 r.channels

-- the registers of a whole chip hold what fits them
pub record SoundChip (m : Datasheet) (c : State) : Type 0 where
  pub running : Sound m c.running
  pub image : Sound m c.image.running

-- what some writes leave, one after the other; none if one is not taken
abbrev pub written : Datasheet → List (ℕ × List ℕ) → Held → Option Held
written m [] s = Some s
written m (p ∷ ps) s =
    cond (length p.1 == m.width p.0) (elim (m.keeps p.0 (number p.1) s) [ None ↦ None | Some s' ↦ written m ps s' ]) None

-- settings so written mean what was wanted, and carry the mark
abbrev pub Means : Datasheet → Wanted → Bool → Option Held → Type 0
Means m w b None = ⊥
Means m w b (Some s) = (m.mark s.settings ≡ b) × (meaning m s.settings ≡ w)

-- a driver's read: 1 to 32 bytes at a listed address
abbrev pub Readable : Datasheet → ℕ × ℕ → Type 0
Readable m p = (1 ≤ p.1) × (p.1 ≤ 32) × (p.0 < 256) × (0 < m.width p.0)

abbrev pub Writable : ℕ × List ℕ → Type 0
Writable p = (p.0 < 256) × Every (λ b. b < 256) p.1

-- the replies to some reads, one after the other
abbrev pub replies : Datasheet → State → List (ℕ × ℕ) → List ℕ
replies m c [] = []
replies m c (p ∷ ps) = reply m c p.0 p.1 ++ replies m c ps

-- how many bytes these are
abbrev pub replies_length : List (ℕ × ℕ) → ℕ
replies_length [] = 0
replies_length (p ∷ ps) = p.1 + replies_length ps

abbrev pub all_zero : Wanted
all_zero = record { rate = 0; off = 0; two_way = 0 }

pub record Lawful (m : Datasheet) : Type 0 where
  -- numbers
  pub one_to_four : (1 ≤ m.channels) × (m.channels ≤ 4)
  pub some_bits : 0 < m.sum_bits
  pub no_product : (i : ℕ) → m.channels ≤ i → (b : Bool) (k : Codes) → m.product i b k ≡ pos 0
  -- registers fit the machine's words
  pub sums_fit : m.sum_bits ≤ 64
  pub counts_fit : m.count_bits ≤ 32
  pub widths_fit : (a : ℕ) → m.width a ≤ 8
  pub addresses_fit : m.last_address < 256
  -- settings
  pub fresh_mark : m.mark m.fresh ≡ false
  pub zero_offered : m.offers all_zero ≡ true
  pub meaning_offered : (s : Settings) → m.offers (meaning m s) ≡ true
  pub offer_limits : (w : Wanted) → m.offers w ≡ true → (w.rate ≤ 3) × (w.off ≤ 15) × (w.two_way ≤ 15)
  -- commands
  pub two_commands : m.refresh ≡ m.refresh_v → ⊥
  pub refresh_is : (m.command m.refresh ≡ true) × (m.refresh < 256)
  pub refresh_v_is : (m.command m.refresh_v ≡ true) × (m.refresh_v < 256)
  pub commands_unlisted : (a : ℕ) → m.command a ≡ true → m.width a ≡ 0
  -- writes
  pub few_writes : (w : Wanted) (b : Bool) → length (m.settings_writes w b) ≤ 3
  pub byte_writes : (w : Wanted) → m.offers w ≡ true → (b : Bool) → Every Writable (m.settings_writes w b)
  pub written_means : (w : Wanted) → m.offers w ≡ true → (b : Bool) (s : Held) → Means m w b (written m (m.settings_writes w b) s)
  -- reads
  pub mark_readable : Readable m m.mark_at
  pub mark_read : (c : State) → m.mark_in (number (reply m c m.mark_at.0 m.mark_at.1)) ≡ m.mark c.active
  pub booking_readable : Every (Readable m) m.booking_reads
  pub few_replies : replies_length m.booking_reads ≤ 64
  -- an image leaves as its registers' bytes, and those bytes give back its count, flags, settings and sums with their signs
  pub entry_read : (c : State) (n : ℕ) → Sound m c.image.running → m.entry_in (replies m c m.booking_reads) n
      ≡ entry_of m c.image n
  pub code_readable : (ch q : ℕ) → 1 ≤ ch → ch ≤ m.channels → q ≤ 1 → Readable m (m.code_at ch q, 2)
  pub bus_read : (c : State) (ch : ℕ) → 1 ≤ ch → ch ≤ m.channels → number (reply m c (m.code_at ch 0) 2)
      ≡ (channel (ch - 1) c.image.running).latest.bus % 65536
  pub sense_read : (c : State) (ch : ℕ) → 1 ≤ ch → ch ≤ m.channels → number (reply m c (m.code_at ch 1) 2)
      ≡ (channel (ch - 1) c.image.running).latest.sense % 65536
  pub polarity_readable : Readable m m.polarity_at
  pub polarity_read : (c : State) → m.two_way_in (number (reply m c m.polarity_at.0 m.polarity_at.1)) ≡ m.two_way c.image.settings
  -- settings are read as one register
  pub mark_short : m.mark_at.1 ≤ 8
  pub polarity_short : m.polarity_at.1 ≤ 8
  -- a bill fits the machine's words
  pub tariff_fits : (m.tariff.factor < 2 ^ 32) × (m.tariff.power ≤ 64)

-- registers hold what fits them from the fresh chip on, whatever cycles come and whatever is asked
pub record StaysSound (m : Datasheet) : Type 0 where
  pub fresh : SoundChip m (fresh_chip m)
  pub cycle : (c : State) (ks : List Codes) → SoundChip m c → SoundChip m (cycled m ks c)
  pub request : (c : State) (q : Request) (c' : State) (bs : List ℕ) → SoundChip m c → reacts m c q ≡ does c' bs → SoundChip m c'
