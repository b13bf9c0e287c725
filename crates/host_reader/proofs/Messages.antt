-- A line is read as a message exactly where Spelling writes it for that message; it is written for one message at most, and so
-- for one of the three kinds. Assumes nothing.
use Rattle.laws.proofs.Refusals.{not_both}
use Rattle.laws.specs.declared.Refusal.TheVariants.{NotReply}
use mathlib.Core.Path.{sym, ◌≡◌, refl, ap, ◌∙◌}
use mathlib.Core.Logic.{◌↔◌}
use mathlib.Core.Bool.{Bool, true, false, cond, ◌&&◌}
use mathlib.Core.List.{List, ◌++◌}
use Prim.Native.Nat.{ℕ}
use lib.Dec.{leb}
use lib.ListN.{length, take}
use borrow.Author.Tests.{leb-true}
use Rattle.std.specs.Prelude.{Option, None, Some, is_some, Err}
use Rattle.laws.specs.Text.{text}
use Rattle.laws.proofs.Spaced.{trail}
use Rattle.host_reader.specs.Spelling.{Address, Axis, Says}
use Rattle.host_reader.specs.Spelling as spelling
use Rattle.host_reader.specs.Reading.{message_in, read_message, number_of}
use Rattle.host_reader.specs.declared.Said.{Said}
use Rattle.host_reader.specs.declared.Said.TheVariants.{Reply, Alert, Info}
use Rattle.host_reader.specs.declared.Message.{Message}
use Rattle.host_reader.specs.declared.Kind.{Kind}
use Rattle.host_reader.specs.declared.Kind.TheVariants as Kinds
use Rattle.host_reader.proofs.SpelledIsRead.{One, one, line_of, body_of, body_is, heard, read_whole}
use Rattle.host_reader.proofs.ReadIsSpelled.{read_spelled}

-- ---- each way
line_is : {mark : List ℕ} (c b k : ℕ) (ws : List (List ℕ)) (e : List ℕ) → One mark → mark ++ body_of c b k ws ++ e
    ≡ line_of mark c b k (trail ws ++ e)
line_is c b k ws e one = rw (body_is c b k ws)

pub message_read : {l : List ℕ} {h : Message} → spelling.Message l h → read_message l ≡ Some h
message_read (spelling.message {e = e} {ws} (Address.two {c} {d = b} x y some) (Axis.one {c = k} z) says end short) =
    let h = heard c b k e says in
    let line = line_is c b k ws e h.byte in
    rw line (read_whole x y some z h end (rw line at short))

pub message_of : (l : List ℕ) (h : Message) → read_message l ≡ Some h → spelling.Message l h
message_of l h e = go (leb (length l) 96) refl (message_in l) refl e
  where
    go : (t : Bool) → leb (length l) 96 ≡ t → (o : Option Message) → message_in l ≡ o → cond (t && is_some o) o None ≡ Some h
        → spelling.Message l h
    go true q (Some g) y e = read_spelled l (leb-true (length l) 96 q) (y ∙ e)
    go true q None y e = cc
    go false q o y e = cc

-- ---- the theorem
pub message_iff : (l : List ℕ) (h : Message) → spelling.Message l h ↔ (read_message l ≡ Some h)
message_iff l h = (message_read, message_of l h)

pub message_one : {l : List ℕ} {h g : Message} → spelling.Message l h → spelling.Message l g → h ≡ g
message_one p q = cc (message_read p, message_read q)

-- "Otherwise NOTREPLY": where the rules write a line for no message, and only there, the number is 30
pub not_message : (l : List ℕ) → ((h : Message) → spelling.Message l h → ⊥) → number_of (read_message l) ≡ Err NotReply
not_message l never = go (read_message l) refl
  where
    go : (r : Option Message) → read_message l ≡ r → number_of r ≡ Err NotReply
    go (Some h) e = absurd (never h (message_of l h e))
    go None e = refl

pub no_spelling : (l : List ℕ) (h : Message) → number_of (read_message l) ≡ Err NotReply → spelling.Message l h → ⊥
no_spelling l h e p = not_both NotReply (sym (rw (message_read p) at e))

-- ---- the kind, told by the first byte
abbrev pub kind_of : Said → Kind
kind_of (Reply ok state words) = Kinds.Reply
kind_of (Alert state) = Kinds.Alert
kind_of (Info words) = Kinds.Info

abbrev pub mark_of : Kind → List ℕ
mark_of Kinds.Reply = text "@"
mark_of Kinds.Alert = text "!"
mark_of Kinds.Info = text "#"

pub kind_by_mark : {l : List ℕ} {h : Message} → spelling.Message l h → take 1 l ≡ mark_of (kind_of h.said)
unfolding text
kind_by_mark (spelling.message a k (Says.reply v s w d) end short) = refl
kind_by_mark (spelling.message a k (Says.alert s w) end short) = refl
kind_by_mark (spelling.message a k (Says.info d) end short) = refl
kind_by_mark (spelling.message a k Says.empty end short) = refl

-- no line is written for messages of two kinds
pub one_kind : {l : List ℕ} {h g : Message} → spelling.Message l h → spelling.Message l g → kind_of h.said ≡ kind_of g.said
one_kind p q = ap (λ (m : Message). kind_of m.said) (message_one p q)
