-- A whole input answered.
use Rattle.std.proofs.Common.{◌≡◌, ℕ, List, [], ◌∷◌, ◌++◌, length, replicate, Some, None, Option, String, Global, string_bytes, refl, sym, ap, ◌∙◌, subst, ap₂}
use Rattle.std.proofs.lemmas.List.{append-nil, append_assoc}
use Rattle.account.specs.Dialogue.{given_up, wrote_off}
use Rattle.account.specs.Dialogue as machine
use Rattle.account.specs.History.{History, carried_in, happened_after, written_off}
use Rattle.book.specs.Book.{Pages, entries}
use Rattle.chip.specs.Datasheet.{Datasheet}
use Rattle.chip.specs.declared.entry.Entry.{Entry}
use Rattle.crew.proofs.Histories.{book_shown, call_seen, seen_joined}
use Rattle.crew.proofs.Texts.{printed_joined}
use Rattle.crew.proofs.Runs.{Onward, begun_led, begun_room, goes_onward, none_used, stays}
use Rattle.crew.specs.Asks.{asked}
use Rattle.crew.specs.Obeyed.{opened}
use Rattle.crew.specs.Runs.{HasRoom, LedBy, LineAnswered, PostEnded, PostOpened, chip_at, goes_to, line_shows, passes_to, visible}
use Rattle.crew.specs.Prints.{printed_lines}
use Rattle.crew.specs.Sessions.{InputAnswered, LinesAnswered, Opening, PostServed, RunShown, Served, ServedBy, booked_in, empty_entry, lines_show, meter_ended, no_line, one_line, shown_ended}
use Rattle.crew.specs.Texts.{KindPrinted, OpeningPrinted, PostPrinted}
use Rattle.crew.specs.declared.kind.Kind.{Kind}
use Rattle.crew.specs.declared.reply.Reply.{Reply}
use Rattle.crew.specs.declared.request.Request.{Request}
use Rattle.desk.specs.Promises.{Ended}
use Rattle.desk.specs.Standing.{Standing}
use Rattle.lines.specs.Cuts.{lines, read_part}
use Rattle.lines.specs.Inputs.{lines_left}
use Rattle.lines.specs.declared.input.Input.{Input}
use Rattle.wire.specs.declared.direct.Direct.{Direct}
use Rattle.wire.specs.declared.scripted.Scripted.{Scripted}

module _ (m : Datasheet) {M : Type 0} where
  -- lines left at a post, with where they lead
  abbrev pub AtPost : List (List ℕ) × Standing (Direct M) → List Reply → Standing (Direct M) → Type 0
  AtPost s ps d = LinesAnswered m s.0 s.1 ps d

  pub line_taken : {b : List ℕ} {bs left : List (List ℕ)} {d d' : Standing (Direct M)} {p : Reply} → bs ≡ b ∷ left → LineAnswered m (asked b) d p d'
      → (ps : List Reply) (e : Standing (Direct M)) → AtPost (left, d') ps e → AtPost (bs, d) (p ∷ ps) e
  line_taken {d = d} {p = p} is a ps e rest = subst (λ x. AtPost (x, d) (p ∷ ps) e) (sym is) (one_line a rest)

  pub no_line_left : {bs : List (List ℕ)} {d : Standing (Direct M)} → bs ≡ [] → AtPost (bs, d) [] d
  no_line_left {d = d} none = subst (λ x. AtPost (x, d) [] d) (sym none) no_line

  -- a line leads a run on, and shows what it shows
  line_onward : (q : Option Request) (d d' : Standing (Direct M)) (p : Reply) (h : History) → LineAnswered m q d p d' → HasRoom d → LedBy m chip_at d h
      → Onward m chip_at (line_shows q p.outcome) d d'
  line_onward None d d' p h a room l = stays m chip_at d d' a.1 room
  line_onward (Some q) d d' p h a room l =
      goes_onward m chip_at (goes_to m) (passes_to m) q d p.outcome d' a.1 (record { room = room; history = h; led = l })

  -- some lines do
  pub lines_onward : {bs : List (List ℕ)} {d d' : Standing (Direct M)} {ps : List Reply} → LinesAnswered m bs d ps d' → HasRoom d → (h : History)
      → LedBy m chip_at d h → (since : History) × (visible since ≡ lines_show bs ps) × LedBy m chip_at d' (since ++ h)
  lines_onward no_line room h l = ([], refl, l)
  lines_onward {d' = d''} (one_line {b = b} {d = d} {d' = d'} {p = p} a rest) room h l =
      let w = line_onward (asked b) d d' p h a room l in
      let first = w.on.on h l in
      let later = lines_onward rest w.room (first.0 ++ h) first.2 in (
        later.0 ++ first.0,
        seen_joined later.0 first.0 ∙ ap₂ (λ x y. x ++ y) later.1 first.1,
        subst (λ (x : History). LedBy m chip_at d'' x) (sym (append_assoc later.0 first.0 h)) later.2,
      )

  -- from a new post on
  lines_led : {bs : List (List ℕ)} {begun left : Standing (Direct M)} {ps : List Reply} {places : List Entry} → length places ≡ 64
      → PostOpened m places begun → LinesAnswered m bs begun ps left → (h : History) × (visible h ≡ lines_show bs ps) × LedBy m chip_at left h
  lines_led {begun = begun} {left} {places = places} many o a =
      let on = lines_onward a (begun_room m chip_at begun.wire places begun o.desk many) [] (begun_led m chip_at begun.wire places begun o.desk many o.chip) in
      (on.0, on.1, subst (λ (x : History). LedBy m chip_at left x) (append-nil on.0) on.2)

  shown : {d : Standing (Direct M)} {s h : History} → visible h ≡ s → LedBy m chip_at d h → RunShown m s d.meter (chip_at d.wire.below) (entries d.book)
  shown {h = h} seen l = record { history = h; visible_part = seen; reached = l.reached; statements = l.statements }

  -- the end of a post writes a slip in hand off, and leaves the chip and the book
  shown_at_end : (hand : Option machine.Slip) (d : Standing (Direct M)) (w : Scripted (Direct M)) → Ended m chip_at (goes_to m) hand d.meter d.wire w
      → w ≡ d.wire → {s h : History} → visible h ≡ s → LedBy m chip_at d h
      → RunShown m (shown_ended hand s) (meter_ended hand d.meter) (chip_at w.below) (entries d.book)
  shown_at_end None d w e same {s} seen l = subst (λ (x : Scripted (Direct M)). RunShown m s d.meter (chip_at x.below) (entries d.book)) (sym same) (shown seen l)
  shown_at_end (Some p) d w e same {s} {h} seen l =
      let call = e.made 64 (entries d.book) [] in
      let on = call.run 1 0 h none_used l.reached in
      record {
        history = happened_after given_up (carried_in call.made.steps h);
        visible_part = call_seen given_up call.made.steps h ∙ ap (λ x. written_off ∷ x) seen;
        reached = on.0;
        statements = on.1;
      }

  -- all lines at a new post, to its end
  module _ {places : List Entry} {bs : List (List ℕ)} {begun left : Standing (Direct M)} {ps : List Reply} {w : Scripted (Direct M)} {b : Pages} (many : length places ≡ 64)
      (o : PostOpened m places begun) (a : LinesAnswered m bs begun ps left) (e : PostEnded m left w) (wire : w ≡ left.wire) (book : b ≡ left.book) where
    pub post_served : PostServed m places bs ps w b
    post_served =
        let run = lines_led many o a in
        let after = shown run.1 run.2 in
        let ended = shown_at_end left.hand left w e wire run.1 run.2 in
        record {
          begun = begun;
          opened = o;
          left = left;
          answered = a;
          wire_left = wire;
          book_left = book;
          account = subst (λ (x : Pages). RunShown m (lines_show bs ps) left.meter (chip_at w.below) (entries x)) (sym book)
              (subst (λ (x : Scripted (Direct M)). RunShown m (lines_show bs ps) left.meter (chip_at x.below) (entries left.book)) (sym wire) after);
          at_end = subst (λ (x : Pages). RunShown m (shown_ended left.hand (lines_show bs ps)) (meter_ended left.hand left.meter) (chip_at w.below) (entries x)) (sym book)
              ended;
          booked = ap entries book ∙ book_shown run.2.reached ∙ ap booked_in run.1;
        }

-- at a post of the kind that was named
pub printed_at_kind : {kind named : Kind} {m : Datasheet} {M : Type 0} {input : Input} {before after : String Global} {w : Scripted (Direct M)} {b : Pages}
    → ((bs : List (List ℕ)) (ps : List Reply) → Served m M bs ps → ServedBy (Some named) bs ps) → kind ≡ named
    → PostPrinted m input (replicate 64 empty_entry) before after w b → KindPrinted kind input before after
printed_at_kind {input = input} {before} {after} {w} {b} by is p =
    subst (λ (k : Kind). KindPrinted k input before after) (sym is) (record {
      replies = p.replies;
      served = by (lines_left input) p.replies (record { wire = w; book = b; served = p.served });
      prints = p.prints;
    })

-- an input that names no kind, and one that does
module _ (text : List ℕ) {input left : Input} {before middle : String Global} (is : lines_left input ≡ lines (read_part text)) (empty : string_bytes before ≡ []) where
  pub no_kind_answered : {k : Option Kind} → k ≡ None → OpeningPrinted input left before middle k → InputAnswered text (string_bytes middle)
  no_kind_answered none opened =
      let o = subst (λ (x : Option Kind). OpeningPrinted input left before middle x) none opened in record {
        replies = o.replies;
        session = record {
          kind = None;
          first = o.replies;
          left = lines_left left;
          later = [];
          opening = subst (λ x. Opening x o.replies None (lines_left left)) is o.opening;
          served = refl;
          all = sym (append-nil o.replies);
        };
        prints = o.prints ∙ ap (λ x. x ++ printed_lines o.replies) empty;
      }

  pub kind_answered : {after : String Global} {o : Option Kind} (k : Kind) → o ≡ Some k → OpeningPrinted input left before middle o → KindPrinted k left middle after
      → InputAnswered text (string_bytes after)
  kind_answered k some opened p =
      let o = subst (λ (x : Option Kind). OpeningPrinted input left before middle x) some opened in record {
        replies = o.replies ++ p.replies;
        session = record {
          kind = Some k;
          first = o.replies;
          left = lines_left left;
          later = p.replies;
          opening = subst (λ x. Opening x o.replies (Some k) (lines_left left)) is o.opening;
          served = p.served;
          all = refl;
        };
        prints = p.prints ∙ ap (λ x. x ++ printed_lines p.replies) (o.prints ∙ ap (λ x. x ++ printed_lines o.replies) empty)
            ∙ sym (printed_joined o.replies p.replies);
      }
