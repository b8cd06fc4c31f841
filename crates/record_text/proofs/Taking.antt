-- What a line says by its words: values put behind one another, the record that they make, a command by its name. Assumes nothing.
use mathlib.Core.Path.{◌≡◌, refl, sym, ap, ap₂, ◌∙◌, subst}
use mathlib.Core.Bool.{Bool, true, false, cond}
use mathlib.Core.List.{List, [], ◌∷◌, ◌++◌}
use Prim.Native.Nat.{ℕ, ◌+◌, ◌-◌, ◌%◌, ◌/◌, ◌≤◌, ◌<◌}
use native.Mathlib.Omega.{arith}
use borrow.Author.Tests.{eq-eqb, ne_eqb, eqb-true, eqb-false, lt-ltb, le-ltb}
use lib.Dec.{eqb}
use lib.ListN.{length, take, drop, length-drop}
use lib.Seq.{length-take-le}
use Rattle.terms.specs.declared.Rule.{Rule}
use Rattle.numbers.specs.Little.{le2, le4}
use Rattle.numbers.proofs.Exact.{le2_small}
use Rattle.record_text.specs.Letters.{same}
use Rattle.record_text.specs.Told.{sr_word}
use Rattle.record_text.specs.Kinds.{Command, kind_number, form_of, number_at, kind_at}
use Rattle.record_text.specs.declared.kinds.Form.{Form}
use Rattle.record_text.specs.declared.kinds.Span.{Span}
use Rattle.record_text.specs.Words.{Word, word, words_at, between}
use Rattle.record_text.specs.Named.{place_named}
use Rattle.record_text.specs.Values.{value_of}
use Rattle.record_text.specs.Line.{record_bytes, Said, Empty, Wrong, Added, Unfit}
use Rattle.record_text.specs.Line.{put, Taken, Payload, Amiss, on_put, take_words, needed, closed}
use Rattle.record_text.specs.Line.{with_sr, values_in, line_by, line_at, line_in, said_of}
use Rattle.record_text.specs.Held.{NextWord, LineFits, values_line, kind_line}
use Rattle.record_text.specs.declared.line.Line.{Line}
use Rattle.record_text.specs.declared.line.Line.TheVariants.{Record as Recorded}
use Rattle.record_text.specs.declared.values.Fault.{Fault}
use Rattle.record_text.specs.declared.values.Fault.TheVariants.{Missing, ManyBytes}
use Rattle.record_text.specs.declared.values.Value.TheVariants.{Number}
use Rattle.record_text.proofs.Tests.{clash}

-- ---- a value behind the bytes that are there
module _ (done : List ℕ) (at value size : ℕ) where
  pub too_many : 240 < length done + size → Unfit ManyBytes at ≡ put done at (Number value size)
  too_many h = rw (lt-ltb 240 (length done + size) h)

  pub has_room : length done + size ≤ 240 → (bytes l : List ℕ) → bytes ≡ le4 value → l ≡ done ++ take size bytes → Added l ≡ put done at (Number value size)
  has_room h bytes l e f = rw (le-ltb 240 (length done + size) h) (ap Added (f ∙ ap (λ (b : List ℕ). done ++ take size b) e))

-- ---- the next word
module _ (line : List ℕ) (at : ℕ) (s : Span) (w : NextWord line at s) where
  pub no_word : s.from ≡ s.to → words_at at line ≡ []
  no_word e = rw (eq-eqb s.from s.to e) at w.is

  pub a_word : (s.from ≡ s.to → ⊥) → words_at at line ≡ word s.from (between s.from s.to line) ∷ words_at s.to line
  a_word n = rw (ne_eqb s.from s.to n) at w.is

pub ends_at : (line : List ℕ) (from to : ℕ) → from ≤ to → to ≤ length line → to ≡ from + length (between from to line)
ends_at line from to h k =
    let e = length-take-le (to - from) (drop from line) (omega (arith, length-drop from line)) in omega arith

-- ---- words are taken one after another
pub record Gathering (rule : Rule) (form : Form) (kind : ℕ) (many : Bool) (line : List ℕ)
    (from : ℕ) (before payload : List ℕ) (count at : ℕ) (more : Bool) : Type 0 where
  pub leads : cond more (take_words many rule form kind (words_at at line) (take count payload)) (Payload (take count payload) (words_at at line))
      ≡ take_words many rule form kind (words_at from line) []
  pub few : count ≤ 240
  pub within : at ≤ length line
  pub room : length payload ≡ 240
  pub same : length payload ≡ length before

module _ (rule : Rule) (form : Form) (kind : ℕ) (many : Bool) (line : List ℕ) (from : ℕ) where
  pub gather_starts : (payload : List ℕ) → length payload ≡ 240 → from ≤ length line → Gathering rule form kind many line from payload payload 0 from true
  gather_starts payload e h = record { leads = refl; few = omega arith; within = h; room = e; same = refl }

  module _ (before payload : List ℕ) (count at : ℕ) (more : Bool) (g : Gathering rule form kind many line from before payload count at more) where
    on : more ≡ true → take_words many rule form kind (words_at at line) (take count payload) ≡ take_words many rule form kind (words_at from line) []
    on t = rw t at g.leads

    pub gathered : more ≡ false → Payload (take count payload) (words_at at line) ≡ take_words many rule form kind (words_at from line) []
    gathered t = rw t at g.leads

    pub no_more : more ≡ true → words_at at line ≡ [] → Payload (take count payload) (words_at at line) ≡ take_words many rule form kind (words_at from line) []
    no_more t e = rw e (sym none ∙ ap (λ (ws : List Word). take_words many rule form kind ws (take count payload)) (sym e) ∙ on t)
      where
        none : take_words many rule form kind [] (take count payload) ≡ Payload (take count payload) []
        none = unfold take_words in refl

    module _ (begin end : ℕ) (t : more ≡ true) (e : words_at at line ≡ word begin (between begin end line) ∷ words_at end line) where
      front : on_put many (words_at end line) (λ (bytes : List ℕ). take_words many rule form kind (words_at end line) bytes)
          (put (take count payload) begin (value_of rule form kind (between begin end line))) ≡ take_words many rule form kind (words_at from line) []
      front = sym first ∙ ap (λ (ws : List Word). take_words many rule form kind ws (take count payload)) (sym e) ∙ on t
        where
          first : take_words many rule form kind (word begin (between begin end line) ∷ words_at end line) (take count payload)
              ≡ on_put many (words_at end line) (λ (bytes : List ℕ). take_words many rule form kind (words_at end line) bytes)
              (put (take count payload) begin (value_of rule form kind (between begin end line)))
          first = unfold take_words in refl

      pub goes_wrong : (fault : Fault) (place : ℕ) → Unfit fault place ≡ put (take count payload) begin (value_of rule form kind (between begin end line))
          → Amiss fault place ≡ take_words many rule form kind (words_at from line) []
      goes_wrong fault place p =
          ap (on_put many (words_at end line) (λ (bytes : List ℕ). take_words many rule form kind (words_at end line) bytes)) p ∙ front

      pub gathers : (after : List ℕ) (n : ℕ) → Added (take n after) ≡ put (take count payload) begin (value_of rule form kind (between begin end line))
          → n ≤ 240 → end ≤ length line → length after ≡ length payload → Gathering rule form kind many line from before after n end many
      gathers after n p few within same = record {
        leads = ap (on_put many (words_at end line) (λ (bytes : List ℕ). take_words many rule form kind (words_at end line) bytes)) p ∙ front;
        few = few;
        within = within;
        room = same ∙ g.room;
        same = same ∙ g.same;
      }

-- ---- the record
pub head_is : (kind : ℕ) (payload : List ℕ) → length payload ≤ 240
    → (2 + length payload) ∷ 0 ∷ (kind % 256) ∷ (kind / 256) ∷ payload ≡ record_bytes kind payload
head_is kind payload h = ap (λ (l : List ℕ). l ++ (le2 kind ++ payload)) (le2_small (2 + length payload) (omega arith))

-- the bytes of a record that was read fit, and are so many
pub record_fits : {r : Line} {count : ℕ} (out : List ℕ) → r ≡ Recorded count → LineFits r → length out ≡ 244
    → (count ≤ 244) × (count ≡ length (take count out)) × (length out ≡ 244)
record_fits {r} {count} out e f h = let n : count ≤ 244 = subst LineFits e f in (n, sym (length-take-le count out (omega arith)), h)

module _ (kind place : ℕ) (t : Taken) where
  pub is_missing : (payload : List ℕ) (count : ℕ) (ws : List Word) → count ≡ 0 → Payload (take count payload) ws ≡ t → Wrong Missing place ≡ closed kind
      (needed place t)
  is_missing payload count ws z e = ap (λ (n : ℕ). closed kind (needed place (Payload (take n payload) ws))) (sym z) ∙ ap
      (λ (u : Taken). closed kind (needed place u)) e

  pub is_there : (l : List ℕ) (ws : List Word) → (length l ≡ 0 → ⊥) → Payload l ws ≡ t → closed kind (Payload l ws) ≡ closed kind (needed place t)
  is_there [] ws n e = absurd (n refl)
  is_there (b ∷ l) ws n e = ap (λ (u : Taken). closed kind (needed place u)) e

  pub is_amiss : (fault : Fault) (at : ℕ) → Amiss fault at ≡ t → Wrong fault at ≡ closed kind (needed place t)
  is_amiss fault at e = ap (λ (u : Taken). closed kind (needed place u)) e

-- ---- a command by its name
module _ (line : List ℕ) (at code : ℕ) (s : Span) (w : NextWord line at s) where
  pub sr_by : (t : Bool) → same sr_word (between s.from s.to line) ≡ t
      → Payload (cond t (code + 128) code ∷ []) (words_at (cond t s.to at) line) ≡ with_sr code (words_at at line)
  sr_by t e = go t (eqb s.from s.to) e refl
    where
      empty : s.from ≡ s.to → between s.from s.to line ≡ []
      empty z = let n : s.to - s.from ≡ 0 = omega arith in ap (λ (k : ℕ). take k (drop s.from line)) n

      go : (t u : Bool) → same sr_word (between s.from s.to line) ≡ t → eqb s.from s.to ≡ u
          → Payload (cond t (code + 128) code ∷ []) (words_at (cond t s.to at) line) ≡ with_sr code (words_at at line)
      go true true e z = clash (ap (same sr_word) (sym (empty (eqb-true s.from s.to z))) ∙ e)
      go false true e z = rw (no_word line at s w (eqb-true s.from s.to z))
      go true false e z =
          ap (λ (t : Bool). cond t (Payload ((code + 128) ∷ []) (words_at s.to line))
          (Payload (code ∷ []) (word s.from (between s.from s.to line) ∷ words_at s.to line))) (sym e)
          ∙ ap (with_sr code) (sym (a_word line at s w (eqb-false s.from s.to z)))
      go false false e z = rw (a_word line at s w (eqb-false s.from s.to z), e)

-- ---- the line
module _ (rule : Rule) (line : List ℕ) where
  pub empty_line : words_at 0 line ≡ [] → Empty ≡ said_of rule line
  unfolding said_of
  empty_line e = ap (line_in rule) (sym e)

  module _ (w : Word) (ws : List Word) (place : ℕ) (e : words_at 0 line ≡ w ∷ ws) (k : place ≡ place_named w.text) where
    at_name : line_at rule place w ws ≡ said_of rule line
    unfolding said_of
    at_name = ap (λ (p : ℕ). line_at rule p w ws) k ∙ ap (line_in rule) (sym e)

    pub command_line : place < 128 → closed (kind_number Command) (with_sr place ws) ≡ said_of rule line
    command_line h =
        ap (λ (t : Bool). cond t (closed (kind_number Command) (with_sr place ws)) (line_by rule (form_of (kind_at place)) (number_at place) w ws))
        (sym (lt-ltb place 128 h)) ∙ at_name

    pub kind_line_lem : 128 ≤ place → (form : Form) (kind : ℕ) → form ≡ form_of (kind_at place) → kind ≡ number_at place
        → line_by rule form kind w ws ≡ said_of rule line
    kind_line_lem h form kind f g =
        ap₂ (λ (x : Form) (y : ℕ). line_by rule x y w ws) f g
        ∙ ap (λ (t : Bool). cond t (closed (kind_number Command) (with_sr place ws)) (line_by rule (form_of (kind_at place)) (number_at place) w ws))
        (sym (le-ltb place 128 h)) ∙ at_name

-- ---- words behind the name of a kind, which ends where its word does
module _ (rule : Rule) (kind : ℕ) (line : List ℕ) (from to : ℕ) (h : from ≤ to) (k : to ≤ length line) where
  pub by_values : (many : Bool) {form told : Form} {said : Said} → form ≡ told
      → values_in rule told kind many (from + length (between from to line)) (words_at to line) ≡ kind_line rule told kind line from to
      → said ≡ values_line rule form kind many line to → said ≡ kind_line rule form kind line from to
  by_values many {form} {told} e is r =
      r ∙ ap₂ (λ (f : Form) (n : ℕ). values_in rule f kind many n (words_at to line)) e (ends_at line from to h k) ∙ is
      ∙ ap (λ (f : Form). kind_line rule f kind line from to) (sym e)
