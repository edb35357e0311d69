-- A loop that answers lines and adds each reply to a text.
use Rattle.std.proofs.Common.{◌≡◌, ℕ, List, [], ◌∷◌, ◌++◌, refl, sym, ap, ◌∙◌, subst}
use Rattle.std.proofs.lemmas.List.{append-nil, append_assoc}
use Rattle.crew.specs.Prints.{printed_line, printed_lines}
use Rattle.crew.specs.declared.reply.Reply.{Reply}

pub printed_joined : (ps rs : List Reply) → printed_lines (ps ++ rs) ≡ printed_lines ps ++ printed_lines rs
printed_joined [] rs = refl
printed_joined (p ∷ ps) rs = ap (λ x. printed_line p ++ x) (printed_joined ps rs) ∙ sym (append_assoc (printed_line p) (printed_lines ps) (printed_lines rs))

-- a text with one reply more
with_one : (before : List ℕ) (ps : List Reply) (p : Reply) {text text' : List ℕ} → text ≡ before ++ printed_lines ps → text' ≡ text ++ printed_line p
    → text' ≡ before ++ printed_lines (ps ++ p ∷ [])
with_one before ps p {text} {text'} prints more =
    more ∙ ap (λ x. x ++ printed_line p) prints ∙ append_assoc before (printed_lines ps) (printed_line p)
    ∙ ap (λ x. before ++ x) (sym (printed_joined ps (p ∷ []) ∙ ap (λ x. printed_lines ps ++ x) (append-nil (printed_line p))))

-- `Rest s ps o`: from s on the replies are ps, and they end at o
module _ {S O : Type 0} (Rest : S → List Reply → O → Type 0) where
  -- from a start to now: the replies that stand in the text, and whatever completes what is left completes the whole
  pub record SoFar (start now : S) (before text : List ℕ) : Type 0 where
    pub replies : List Reply
    pub prints : text ≡ before ++ printed_lines replies
    pub on : (ps : List Reply) (o : O) → Rest now ps o → Rest start (replies ++ ps) o

  -- all of it
  pub record Completed (start : S) (before : List ℕ) (o : O) (text : List ℕ) : Type 0 where
    pub replies : List Reply
    pub rest : Rest start replies o
    pub prints : text ≡ before ++ printed_lines replies

  pub nothing_yet : (s : S) (before : List ℕ) → SoFar s s before before
  nothing_yet s before = record { replies = []; prints = sym (append-nil before); on = λ ps o r. r }

  pub one_more : {start now now' : S} {before text text' : List ℕ} (p : Reply) → ((ps : List Reply) (o : O) → Rest now' ps o → Rest now (p ∷ ps) o)
      → text' ≡ text ++ printed_line p → SoFar start now before text → SoFar start now' before text'
  one_more {start} {before = before} p step more s = record {
    replies = s.replies ++ p ∷ [];
    prints = with_one before s.replies p s.prints more;
    on = λ ps o r. subst (λ x. Rest start x o) (sym (append_assoc s.replies (p ∷ []) ps)) (s.on (p ∷ ps) o (step ps o r));
  }

  pub completed : {start now : S} {before text : List ℕ} {o : O} → Rest now [] o → SoFar start now before text → Completed start before o text
  completed {start} {o = o} r s = record {
    replies = s.replies;
    rest = subst (λ x. Rest start x o) (append-nil s.replies) (s.on [] o r);
    prints = s.prints;
  }

  pub completed_by : {start now : S} {before text text' : List ℕ} {o : O} (p : Reply) → Rest now (p ∷ []) o → text' ≡ text ++ printed_line p
      → SoFar start now before text → Completed start before o text'
  completed_by {before = before} {o = o} p r more s =
      record { replies = s.replies ++ p ∷ []; rest = s.on (p ∷ []) o r; prints = with_one before s.replies p s.prints more }
