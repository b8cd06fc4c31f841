-- The parts of a record's text: words of a push, `sr`, a command by its name or its code. Assumes nothing.
use mathlib.Core.Path.{◌≡◌, refl, sym, ap, ◌∙◌}
use mathlib.Core.Bool.{Bool, true, false, cond}
use mathlib.Core.List.{List, [], ◌∷◌, ◌++◌, append-nil, append_assoc}
use Prim.Native.Nat.{ℕ, ◌+◌, ◌*◌, ◌-◌, ◌%◌, ◌≤◌, ◌<◌}
use native.Mathlib.Omega.{arith}
use borrow.Author.Tests.{le-leb, lt-leb, ne_eqb}
use lib.Dec.{leb}
use lib.ListN.{length, take, drop, length-drop, drop_of_length-le}
use lib.Seq.{drop-drop, length-take-le}
use Rattle.listing.specs.Text.{hex, Adds}
use Rattle.listing.specs.Listing.{blank}
use Rattle.listing.proofs.Adding.{nothing, both}
use Rattle.listing.proofs.Adding.{told_as}
use Rattle.record_text.specs.Names.{name_of}
use Rattle.record_text.specs.Kinds.{Kind, Command, numbered_kind, kind_at, kind_name, form_of}
use Rattle.record_text.specs.Told.{group_text, group_size, groups, spaced, joined, sr_word, sr_words, command_words, words_by, record_text}
use Rattle.record_text.specs.declared.kinds.Form.{Form}

-- ---- the words of a push
groups_split : (l : List ℕ) (size : ℕ) → 0 < length l → size ≡ group_size (length l)
    → (blank ∷ group_text (take size l)) ++ spaced (groups (drop size l)) ≡ spaced (groups l)
unfolding groups
groups_split [] size h e = absurd (omega arith)
groups_split (a ∷ []) size h e = rw e
groups_split (a ∷ b ∷ []) size h e = rw e
groups_split (a ∷ b ∷ c ∷ []) size h e = rw e
groups_split (a ∷ b ∷ c ∷ d ∷ l) size h e =
    let z : size ≡ 4 = e ∙ four (length (a ∷ b ∷ c ∷ d ∷ l)) (omega arith) in
    rw z
  where
    four : (n : ℕ) → 4 ≤ n → group_size n ≡ 4
    four n g = rw (le-leb 4 n g)

-- the bytes of the next word are there
pub word_length : (bytes : List ℕ) (at size : ℕ) → size ≤ length bytes - at → length (take (at + size - at) (drop at bytes)) ≡ size
word_length bytes at size h =
    let e = length-take-le (at + size - at) (drop at bytes) (omega (arith, length-drop at bytes)) in omega (arith, e)

-- what was told so far, with the words of the bytes that are left
pub record Telling (bytes before after : List ℕ) (place next at : ℕ) : Type 0 where
  pub text : List ℕ
  pub adds : Adds text before after place next
  pub leads : text ++ spaced (groups (drop at bytes)) ≡ spaced (groups bytes)
  pub within : at ≤ length bytes
  pub few : next ≤ place + 3 * at
  pub same : length after ≡ length before

pub tell_starts : (bytes before : List ℕ) (place : ℕ) → Telling bytes before before place place 0
tell_starts bytes before place = record {
  text = [];
  adds = nothing before place;
  leads = refl;
  within = omega arith;
  few = omega arith;
  same = refl;
}

module _ (bytes before after : List ℕ) (place next at : ℕ) (t : Telling bytes before after place next at) where
  pub tells : (size : ℕ) (more : List ℕ) (then : ℕ) → at < length bytes → size ≡ group_size (length bytes - at) → size ≤ length bytes - at
      → Adds (blank ∷ group_text (take (at + size - at) (drop at bytes))) after more next then
      → then ≤ next + 3 * length (take (at + size - at) (drop at bytes)) → length more ≡ length after → Telling bytes before more place then (at + size)
  tells size more then h e small a f s =
      let z : at + size - at ≡ size = omega arith in
      let group = blank ∷ group_text (take size (drop at bytes)) in
      let rest = groups_split (drop at bytes) size (omega (arith, length-drop at bytes)) (e ∙ ap group_size (sym (length-drop at bytes))) in
      record {
        text = t.text ++ group;
        adds = both t.adds (told_as (ap (λ (n : ℕ). blank ∷ group_text (take n (drop at bytes))) z) a);
        leads = append_assoc t.text group (spaced (groups (drop (at + size) bytes)))
            ∙ ap (λ (l : List ℕ). t.text ++ (group ++ spaced (groups l))) (sym (drop-drop size at bytes))
            ∙ ap (λ (l : List ℕ). t.text ++ l) rest ∙ t.leads;
        within = let w = t.within in omega arith;
        few = omega (arith, t.few, word_length bytes at size small);
        same = s ∙ t.same;
      }

  pub all_told : length bytes ≤ at → Adds (spaced (groups bytes)) before after place next
  all_told h = told_as (sym (append-nil t.text) ∙ ap (λ (l : List ℕ). t.text ++ l) (sym none) ∙ t.leads) t.adds
    where
      none : spaced (groups (drop at bytes)) ≡ []
      none = ap (λ (l : List ℕ). spaced (groups l)) (drop_of_length-le bytes h) ∙ (unfold groups in refl)

-- ---- `sr`
module _ (code : ℕ) {a b : List ℕ} {p q : ℕ} where
  pub with_sr_lem : 128 ≤ code → Adds (blank ∷ sr_word) a b p q → Adds (spaced (sr_words code)) a b p q
  with_sr_lem h k = rw (le-leb 128 code h) k

pub without_sr : (code : ℕ) (l : List ℕ) (p : ℕ) → code < 128 → Adds (spaced (sr_words code)) l l p p
without_sr code l p h = rw (lt-leb 128 code h) (nothing l p)

pub sr_short : (code : ℕ) → length (spaced (sr_words code)) ≤ 3
sr_short code = go (leb 128 code)
  where
    go : (t : Bool) → length (spaced (cond t (sr_word ∷ []) [])) ≤ 3
    go true = omega arith
    go false = omega arith

-- ---- a command
module _ (code : ℕ) where
  pub by_code : name_of (code % 128) ≡ [] → kind_name Command ++ (blank ∷ hex code) ≡ joined (command_words code)
  unfolding command_words
  by_code e = rw e

  pub by_name : (length (name_of (code % 128)) ≡ 0 → ⊥) → name_of (code % 128) ++ spaced (sr_words code) ≡ joined (command_words code)
  unfolding command_words
  by_name n = rw (ne_eqb (length (name_of (code % 128))) 0 n)

pub no_letters : (l m : List ℕ) (n : ℕ) → take n l ≡ m → n ≡ 0 → m ≡ []
no_letters l m n e z = sym e ∙ ap (λ (k : ℕ). take k l) z

pub some_letters : (l m : List ℕ) (n : ℕ) → take n l ≡ m → n ≤ length l → (n ≡ 0 → ⊥) → (length m ≡ 0 → ⊥)
some_letters l m n e h k z = k (let s : length (take n l) ≡ n = length-take-le n l h in let t : length (take n l) ≡ length m = ap length e in omega arith)

-- ---- the text by the form of what stands behind the name of the kind
pub by_form : (form : Form) (number kind : ℕ) (payload : List ℕ) {a b : List ℕ} {p q : ℕ} → kind_at kind ≡ numbered_kind number → form_of (kind_at kind) ≡ form
    → Adds (joined (words_by form (kind_at kind) payload)) a b p q → Adds (record_text (numbered_kind number) payload) a b p q
by_form form number kind payload e f h =
    told_as (ap (λ (g : Form). joined (words_by g (kind_at kind) payload)) (sym f) ∙ ap (λ (k : Kind). record_text k payload) e) h
