-- The text of a message stands in its line where the message says, byte for byte, and is a text by the rule.
-- Assumes nothing.
use mathlib.Core.Path.{◌≡◌, refl, sym, ap, subst, ◌∙◌}
use mathlib.Core.List.{List, [], ◌∷◌, ◌++◌, append_assoc}
use Prim.Native.Nat.{ℕ}
use lib.ListN.{length}
use lib.Seq.{drop_at, take-append_seam}
use Rattle.std.specs.Prelude.{Some}
use Rattle.laws.specs.Text.{text, spaced}
use Rattle.host_reader.specs.Spelling.{Data, Says}
use Rattle.host_reader.specs.Spelling as spelling
use Rattle.host_reader.specs.Reading.{field, read_message}
use Rattle.host_reader.specs.declared.Said.{Said}
use Rattle.host_reader.specs.declared.Said.TheVariants.{Reply, Alert, Info}
use Rattle.host_reader.specs.declared.Message.{Message}
use Rattle.host_reader.proofs.Messages.{message_of}

-- a last word stands behind all that would stand before an empty one
spaced_last : (w : List ℕ) (ws : List (List ℕ)) (d : List ℕ) → spaced (w ∷ (ws ++ (d ∷ []))) ≡ spaced (w ∷ (ws ++ ([] ∷ []))) ++ d
unfolding spaced
spaced_last w [] d = sym (append_assoc w (32 ∷ []) d)
spaced_last w (v ∷ ws) d =
    ap (λ (l : List ℕ). w ++ (32 ∷ l)) (spaced_last v ws d) ∙ sym (append_assoc w (32 ∷ spaced (v ∷ (ws ++ ([] ∷ [])))) d)

behind : (x d e : List ℕ) → field ((x ++ d) ++ e) (length x) (length d) ≡ d
behind x d e = rw (append_assoc x d e, drop_at x (d ++ e) (length x) refl) (take-append_seam d e)

pub text_stands : (mark w : List ℕ) (ws : List (List ℕ)) (d e : List ℕ)
    → field (mark ++ spaced (w ∷ (ws ++ (d ∷ []))) ++ e) (length (mark ++ spaced (w ∷ (ws ++ ([] ∷ []))))) (length d) ≡ d
text_stands mark w ws d e =
    let x = spaced (w ∷ (ws ++ ([] ∷ []))) in
    ap (λ (l : List ℕ). field (l ++ e) (length (mark ++ x)) (length d))
    (ap (λ (l : List ℕ). mark ++ l) (spaced_last w ws d) ∙ sym (append_assoc mark x d))
    ∙ behind (mark ++ x) d e

-- "Text follows the rule for reply data, or is empty"
pub data InfoText : List ℕ → Type 0 where
  empty : InfoText []
  said : {t : List ℕ} → Data t → InfoText t

abbrev pub TextIn : List ℕ → Said → Type 0
TextIn l (Reply ok state t) = Data (field l t.place t.length)
TextIn l (Alert state) = Unit
TextIn l (Info t) = InfoText (field l t.place t.length)

none_stands : (l : List ℕ) (i : ℕ) → InfoText (field l i 0)
none_stands l i = empty

spelled_text : {l : List ℕ} {h : Message} → spelling.Message l h → TextIn l h.said
spelled_text (spelling.message {a = a} {k} {e} x y (Says.reply {v} {s} {w} {d} p q r t) end short) =
    subst Data (sym (text_stands (text "@") a (k ∷ v ∷ s ∷ w ∷ []) d e)) t
spelled_text (spelling.message x y (Says.alert p q) end short) = tt
spelled_text (spelling.message {a = a} {k} {e} x y (Says.info {d} t) end short) =
    subst InfoText (sym (text_stands (text "#") a (k ∷ []) d e)) (said t)
spelled_text (spelling.message {a = a} {k} {e} x y Says.empty end short) =
    none_stands (text "#" ++ spaced (a ∷ k ∷ []) ++ e) (length (text "#" ++ spaced (a ∷ k ∷ [])))

-- whatever is read as a message
pub read_text : (l : List ℕ) (h : Message) → read_message l ≡ Some h → TextIn l h.said
read_text l h e = spelled_text (message_of l h e)
