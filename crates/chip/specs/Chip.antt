-- What a chip of a make does.
use Rattle.std.specs.Prelude.{ℕ, zero, suc, ◌+◌, ◌-◌, ◌%◌, ◌^◌, Bool, true, false, cond, not, ◌&&◌, ◌||◌, List, [], ◌∷◌, ◌++◌, map, length, take, replicate, ℤ, pos, ◌+ℤ◌, Some, None, Ok, Err, Option, Result, ◌==◌, nat_le, nat_lt, slice_index_or}
use Rattle.chip.specs.declared.entry.Entry.{Entry}
use Rattle.chip.specs.declared.refusal.Refusal.{Refusal}
use Rattle.chip.specs.declared.refusal.Refusal.TheVariants.{Limits, NotAcknowledged}
use Rattle.chip.specs.declared.refusal.Who.TheVariants.{Chip}
use Rattle.chip.specs.declared.state.Channel.{Channel}
use Rattle.chip.specs.declared.state.Codes.{Codes}
use Rattle.chip.specs.declared.state.Held.{Held}
use Rattle.chip.specs.declared.state.Image.{Image}
use Rattle.chip.specs.declared.state.Running.{Running}
use Rattle.chip.specs.declared.state.Settings.{Settings}
use Rattle.chip.specs.declared.state.State.{State}
use Rattle.chip.specs.Datasheet.{Datasheet}
use Rattle.chip.specs.Registers.{in_mask, value_of, in_range, bits_of, big_endian, number}

abbrev pub all_off : Datasheet → Settings → Bool
all_off m s = m.off s == 15

module _ (m : Datasheet) (two_way : Bool) where
  -- the true sum of channel i after a cycle, one-way or two-way
  abbrev pub sum_after : (i : ℕ) → Codes → Channel → ℤ
  sum_after i k c = value_of m.sum_bits two_way c.sum +ℤ m.product i two_way k

  -- it takes codes and product as latest, and adds the product to its sum
  abbrev pub converted : (i : ℕ) → Codes → Channel → Channel
  converted i k c = record { latest = k; product = m.product i two_way k; sum = bits_of m.sum_bits (sum_after i k c) }

module _ (m : Datasheet) (s : Settings) where
  -- the true sum of channel i after a cycle
  abbrev pub true_sum : (i : ℕ) → Codes → Channel → ℤ
  true_sum i k c = sum_after m (in_mask (m.two_way s) i) i k c

  -- a channel that is on is converted
  abbrev pub adds : (i : ℕ) → Codes → Channel → Channel
  adds i k c = cond (in_mask (m.off s) i) c (converted m (in_mask (m.two_way s) i) i k c)

  -- its true sum is out of the register's range
  abbrev pub leaves : (i : ℕ) → Codes → Channel → Bool
  leaves i k c = not (in_mask (m.off s) i) && not (in_range m.sum_bits (in_mask (m.two_way s) i) (true_sum i k c))

  -- the same on all channels, from channel i on
  abbrev pub add_all : (i : ℕ) → List Codes → List Channel → List Channel
  add_all i [] cs = cs
  add_all i (k ∷ ks) [] = []
  add_all i (k ∷ ks) (c ∷ cs) = adds i k c ∷ add_all (i + 1) ks cs

  abbrev pub any_leaves : (i : ℕ) → List Codes → List Channel → Bool
  any_leaves i [] cs = false
  any_leaves i (k ∷ ks) [] = false
  any_leaves i (k ∷ ks) (c ∷ cs) = leaves i k c || any_leaves (i + 1) ks cs

-- a count after one cycle more, in a register of so many bits
abbrev pub counted : (bits : ℕ) → Running → Running
counted bits r = record r { count = (r.count + 1) % 2 ^ bits; count_flag = r.count_flag || (r.count + 1 == 2 ^ bits) }

-- the running part after a cycle that finds a channel on
abbrev pub ran : Datasheet → Settings → List Codes → Running → Running
ran m s ks r = counted m.count_bits (record r {
  channels = add_all m s 0 ks r.channels;
  sum_flag = r.sum_flag || any_leaves m s 0 ks r.channels;
})

-- one cycle; with all four channels off it changes nothing
abbrev pub cycled : Datasheet → List Codes → State → State
cycled m ks c = cond (all_off m c.active) c (record c { running = ran m c.active ks c.running })

-- sums, count and flags zeroed; latest codes and products stay
abbrev pub cleared : Channel → Channel
cleared c = record c { sum = 0 }

abbrev pub zeroed : Running → Running
zeroed r = record { channels = map cleared r.channels; count = 0; sum_flag = false; count_flag = false }

-- REFRESH_V: the running part and the active settings are copied to the image, and the pending settings become active
abbrev pub latched : State → State
latched c = record c { active = c.held.settings; image = record { running = c.running; settings = c.active } }

-- REFRESH: the same, and sums, count and flags are zeroed
abbrev pub refreshed : State → State
refreshed c = record (latched c) { running = zeroed c.running }

abbrev pub blank : Channel
blank = record { latest = record { bus = 0; sense = 0 }; product = pos 0; sum = 0 }

-- a channel of a running part, counted from 0
abbrev pub channel : (i : ℕ) → Running → Channel
channel i r = slice_index_or r.channels i blank

abbrev pub idle : Running
idle = record { channels = replicate 4 blank; count = 0; sum_flag = false; count_flag = false }

-- nothing counted yet, under these settings
abbrev pub fresh_from : Settings → State
fresh_from s = record {
  held = record { settings = s; byte = 0 };
  active = s;
  running = idle;
  image = record { running = idle; settings = s };
}

abbrev pub fresh_chip : Datasheet → State
fresh_chip m = fresh_from m.fresh

-- the bytes of so many addresses from one on
abbrev pub shown : Datasheet → State → (addresses : ℕ) → (start : ℕ) → List ℕ
shown m c zero a = []
shown m c (suc k) a = big_endian (m.width a) (m.shows c a) ++ shown m c k (a + 1)

-- a read's bytes: register after register, then FFh
abbrev pub reply : Datasheet → State → (start n : ℕ) → List ℕ
reply m c start n = take n (shown m c (m.last_address + 1 - start) start ++ replicate n 255)

-- a transaction, as it is asked for
pub data Request : Type 0 where
  read : (start n : ℕ) → Request
  write : (address : ℕ) → List ℕ → Request
  send : (address : ℕ) → Request

abbrev pub address_of : Request → ℕ
address_of (read a n) = a
address_of (write a bs) = a
address_of (send a) = a

abbrev pub good_length : ℕ → Bool
good_length n = nat_le 1 n && nat_le n 64

-- only a read can have a bad length
abbrev pub sized : Request → Bool
sized (read a n) = good_length n
sized (write a bs) = true
sized (send a) = true

-- what a chip makes of a request: the chip after it, and the bytes that it answers
pub data Reaction : Type 0 where
  bad_length : Reaction
  no_acknowledge : Reaction
  does : State → List ℕ → Reaction

abbrev pub with_held : State → Held → State
with_held c h = record c { held = h }

-- a write is taken with just the register's bytes
abbrev pub takes : Datasheet → State → (address : ℕ) → List ℕ → Option Held → Reaction
takes m c a bs None = no_acknowledge
takes m c a bs (Some s) = cond (length bs == m.width a) (does (with_held c s) []) no_acknowledge

-- a read tests its length, then whether the address is a command, then whether it is listed
abbrev pub reacts : Datasheet → State → Request → Reaction
reacts m c (read a n) =
    cond (good_length n) (cond (m.command a) no_acknowledge (cond (nat_lt 0 (m.width a)) (does c (reply m c a n)) no_acknowledge)) bad_length
reacts m c (write a bs) = takes m c a bs (m.keeps a (number bs) c.held)
reacts m c (send a) = cond (a == m.refresh) (does (refreshed c) []) (cond (a == m.refresh_v) (does (latched c) []) no_acknowledge)

-- what a caller of a chip hears of a request at an address
abbrev pub heard : (address : ℕ) → Reaction → Result Unit Refusal
heard a bad_length = Err Limits
heard a no_acknowledge = Err (NotAcknowledged Chip a)
heard a (does c bs) = Ok tt

-- the chip after a request; a refused one leaves it as it was
abbrev pub state_after : Reaction → State → State
state_after bad_length c = c
state_after no_acknowledge c = c
state_after (does c' bs) c = c'

-- a reader's bytes after a read; a refused one leaves them as they were
abbrev pub bytes_after : Reaction → List ℕ → List ℕ
bytes_after bad_length bs = bs
bytes_after no_acknowledge bs = bs
bytes_after (does c bs') bs = bs'

-- either flag
abbrev pub spoilt : Running → Bool
spoilt r = r.sum_flag || r.count_flag

-- the sums that the registers hold, with their signs, from channel i on
abbrev pub sums_of : Datasheet → Settings → (i : ℕ) → List Channel → List ℤ
sums_of m s i [] = []
sums_of m s i (c ∷ cs) = value_of m.sum_bits (in_mask (m.two_way s) i) c.sum ∷ sums_of m s (i + 1) cs

-- the entry that an image is to give
abbrev pub entry_of : Datasheet → Image → (draw : ℕ) → Entry
entry_of m g n = record {
  draw = n;
  spoilt = cond (spoilt g.running) 1 0;
  count = g.running.count;
  rate = m.rate g.settings;
  off = m.off g.settings;
  two_way = m.two_way g.settings;
  sums = sums_of m g.settings 0 g.running.channels;
}
