-- What holds of all that has been read is kept when a name or a width is added.
use Rattle.std.proofs.Common.{◌≡◌, ℕ, zero, suc, ◌+◌, ◌-◌, ◌<◌, ◌≤◌, false, ◌⊎◌, List, [], ◌∷◌, ◌++◌, length, get_or, set, Some, None, Option, refl, ◌∙◌, inl, inr, arith}
use Rattle.std.proofs.lemmas.List.{length_push, length-set, get_or-set_same, get_or-set_other}
use Rattle.std.proofs.ByRecursion.{All-push, All-weaker}
use Rattle.std.proofs.lemmas.Bool.{cases_eq}
use Rattle.model.specs.Declarations.{TableDeclaration}
use Rattle.model.specs.Action.{Operand, Field, Number, Test, Equals, Less, Action, Set, Add}
use Rattle.source.specs.Names as names
use Rattle.source.specs.Names.{Entry, find, find_in}
use Rattle.source.specs.State.{Next, Ends, Header, Later, Never, Choice, Tables, Block, Do, Yes, No, Doing, Act, Apply, If, Skip, Row, Seen}
use Rattle.source.specs.Declaring.{is_out, add_header, add_field, set_width}
use Rattle.source.specs.Tabling.{add_table}
use Rattle.limits.specs.Numbering.{Below}
use Rattle.limits.specs.Naming.{NameLimits, EntryNameLimits, FieldNameLimits, EntryLimits, Wide}
use Rattle.limits.specs.Tabling.{TableLimits}
use Rattle.limits.specs.Doing.{OperandLimits, TestLimits, ActionLimits, DoingLimits, RowLimits}
use Rattle.limits.proofs.Rows.{numbered_push, fields_push, rising_push, rising_more, owns_more, found_push}
use Rattle.limits.proofs.Apart.{new_name, new_field, apart_push, fields_apart_push}
use Rattle.limits.proofs.Sound.{FirstBelow, Fits, ChoiceSound, TablesSound, BlockSound, State}

entry_more : (limit : ℕ) (es : List Entry) (v : List ℕ) (n : ℕ) → n ≡ length es → n < limit → NameLimits v → find es v ≡ None → EntryLimits limit es →
    EntryLimits limit (es ++ record { name = v; number = n } ∷ [])
entry_more limit es v n e l s new h = record {
  few = omega (arith, length_push es (record { name = v; number = n }));
  numbered = numbered_push 0 n es v (omega arith) h.numbered;
  names = All-push EntryNameLimits es (record { name = v; number = n }) h.names s;
  apart = apart_push es (record { name = v; number = n }) (new_name es v n new) h.apart;
}

first_more : (o : Option ℕ) (m n : ℕ) → m ≤ n → FirstBelow o m → FirstBelow o n
first_more (Some h) m n l b = omega arith
first_more None m n l b = tt

fits_more : (k : ℕ) (hs : List Entry) (v : List ℕ) (n : ℕ) → n ≡ length hs → k < length hs → (x : Next) → Fits k hs x → Fits k (hs ++ record { name = v; number = n } ∷ []) x
fits_more k hs v n e l Ends f = tt
fits_more k hs v n e l (Header g) f = record { above = f.above; below = omega (arith, f.below, length_push hs (record { name = v; number = n })) }
fits_more k hs v n e l (Later w at) f = λ g q. elim (found_push hs v n w g q) [ inl p ↦ f g p | inr p ↦ omega arith ]
fits_more k hs v n e l (Never at) f = tt

choice_more : (hs : List Entry) (v : List ℕ) (n : ℕ) (by : List (Option ℕ)) → n ≡ length hs → (c : Choice) → ChoiceSound hs by c → ChoiceSound (hs ++ record { name = v; number = n } ∷ []) by c
choice_more hs v n by e c h = record {
  small = h.small;
  there = omega (arith, h.there, length_push hs (record { name = v; number = n }));
  chooses = h.chooses;
  fits = fits_more c.header hs v n e h.there c.next h.fits;
}

pub header_added : (d : Seen) (v : List ℕ) (n : ℕ) → n ≡ length d.names.headers → NameLimits v → find d.names.headers v ≡ None → n < 8 → State d → State (add_header (record { name = v; number = n }) d)
header_added d v n e s new l h =
    let e1 : Entry = record { name = v; number = n } in
    let more : length (d.names.headers ++ e1 ∷ []) ≡ length d.names.headers + 1 = length_push d.names.headers e1 in
    record {
      names = record {
        headers = entry_more 8 d.names.headers v n e l s new h.names.headers;
        fields = record {
          few = h.names.fields.few;
          numbered = h.names.fields.numbered;
          rising = rising_more 0 (length d.names.headers) (length (d.names.headers ++ e1 ∷ [])) d.names.fields (omega arith) h.names.fields.rising;
          names = h.names.fields.names;
          apart = h.names.fields.apart;
        };
        tables = h.names.tables;
        widths = h.names.widths;
      };
      tables = h.tables;
      routes = record {
        first = first_more d.routes.first (length d.names.headers) (length (d.names.headers ++ e1 ∷ [])) (omega arith) h.routes.first;
        eight = h.routes.eight;
        own = h.routes.own;
        few = h.routes.few;
        choices = All-weaker _ _ (choice_more d.names.headers v n d.routes.by e) d.routes.choices h.routes.choices;
      };
      body = h.body;
    }

operand_more : (m n : ℕ) → m ≤ n → (o : Operand) → OperandLimits m o → OperandLimits n o
operand_more m n l (Field f) h = omega arith
operand_more m n l (Number k) h = h

test_more : (m n : ℕ) → m ≤ n → (c : Test) → TestLimits m c → TestLimits n c
test_more m n l (Equals f o) h = (omega (arith, h.0), operand_more m n l o h.1)
test_more m n l (Less f o) h = (omega (arith, h.0), operand_more m n l o h.1)

action_more : (m n : ℕ) → m ≤ n → (a : Action) → ActionLimits m a → ActionLimits n a
action_more m n l (Set f o) h = (omega (arith, h.0), operand_more m n l o h.1)
action_more m n l (Add f o) h = (omega (arith, h.0), operand_more m n l o h.1)

doing_more : (m n s t b c i : ℕ) → m ≤ n → s ≤ t → b ≤ c → (x : Doing) → DoingLimits m s b i x → DoingLimits n t c i x
doing_more m n s t b c i l k j (Act a) h = action_more m n l a h
doing_more m n s t b c i l k j (Apply x) h = omega arith
doing_more m n s t b c i l k j (If x past) h = (test_more m n l x h.0, omega (arith, h.1))
doing_more m n s t b c i l k j (Skip past) h = omega arith

pub rows_more : (m n s t b c i : ℕ) → m ≤ n → s ≤ t → b ≤ c → (rs : List Row) → RowLimits m s b i rs → RowLimits n t c i rs
unfolding RowLimits
rows_more m n s t b c i l k j [] h = tt
rows_more m n s t b c i l k j (r ∷ rs) h = (doing_more m n s t b c i l k j r.doing h.0, rows_more m n s t b c (i + 1) l k j rs h.1)

pub block_more : (m n b c : ℕ) → m ≤ n → b ≤ c → (x : Block) → BlockSound m b x → BlockSound n c x
block_more m n b c l j Do h = tt
block_more m n b c l j (Yes f) h = record { there = omega (arith, h.there); test = test_more m n l f.test h.test }
block_more m n b c l j (No t) h = omega arith

pub table_added : (d : Seen) (v : List ℕ) (n : ℕ) → n ≡ length d.names.tables → NameLimits v → find d.names.tables v ≡ None → n < 32 → State d → State (add_table (record { name = v; number = n }) d)
table_added d v n e s new l h =
    let e1 : Entry = record { name = v; number = n } in
    let more : length (d.names.tables ++ e1 ∷ []) ≡ length d.names.tables + 1 = length_push d.names.tables e1 in
    record {
      names = record {
        headers = h.names.headers;
        fields = h.names.fields;
        tables = entry_more 32 d.names.tables v n e l s new h.names.tables;
        widths = h.names.widths;
      };
      tables = h.tables;
      routes = h.routes;
      body = record { rows = rows_more _ _ (length d.names.tables) _ _ _ 0 (omega arith) (omega arith) (omega arith) d.body.rows h.body.rows; blocks = h.body.blocks };
    }

table_more : (m n : ℕ) → m ≤ n → (t : TableDeclaration) → TableLimits m t → TableLimits n t
table_more m n l t h = record {
  few_looks = h.few_looks;
  few_sets = h.few_sets;
  some_lines = h.some_lines;
  few_lines = h.few_lines;
  looks_there = All-weaker (Below m) (Below n) (λ x b. omega arith) t.looks h.looks_there;
  sets_there = All-weaker (Below m) (Below n) (λ x b. omega arith) t.sets h.sets_there;
}

tables_more : (m n : ℕ) → m ≤ n → (t : Tables) → TablesSound m t → TablesSound n t
tables_more m n l t h = record {
  few_looks = h.few_looks;
  few_sets = h.few_sets;
  looks_there = All-weaker (Below m) (Below n) (λ x b. omega arith) t.looks h.looks_there;
  sets_there = All-weaker (Below m) (Below n) (λ x b. omega arith) t.sets h.sets_there;
  declared = All-weaker (TableLimits m) (TableLimits n) (table_more m n l) t.declared h.declared;
}

pub field_added : (d : Seen) (v : List ℕ) (k n : ℕ) → n ≡ length d.names.fields + 1 → k + 1 ≡ length d.names.headers → NameLimits v → is_out v ≡ false → find_in d.names.fields k v ≡ None → n < 64 → State d →
    State (add_field (record { name = v; header = k; number = n }) d)
field_added d v k n e last s not_out new l h =
    let f : names.Field = record { name = v; header = k; number = n } in
    let fs : List names.Field = d.names.fields ++ f ∷ [] in
    let more : length fs ≡ length d.names.fields + 1 = length_push d.names.fields f in
    record {
      names = record {
        headers = h.names.headers;
        fields = record {
          few = omega arith;
          numbered = fields_push 1 n d.names.fields v k (omega arith) h.names.fields.numbered;
          rising = rising_push 0 (length d.names.headers) d.names.fields v k n (omega arith) last h.names.fields.rising;
          names = All-push FieldNameLimits d.names.fields f h.names.fields.names (record { name = s; not_out = not_out });
          apart = fields_apart_push d.names.fields f (new_field d.names.fields v k n new) h.names.fields.apart;
        };
        tables = h.names.tables;
        widths = record {
          each = h.names.widths.each;
          narrow = h.names.widths.narrow;
          out = h.names.widths.out;
          others = λ g b. h.names.widths.others g (omega arith);
        };
      };
      tables = tables_more (length d.names.fields + 1) (length fs + 1) (omega arith) d.tables h.tables;
      routes = record {
        first = h.routes.first;
        eight = h.routes.eight;
        own = λ g x q. owns_more g x d.names.fields (f ∷ []) (h.routes.own g x q);
        few = h.routes.few;
        choices = h.routes.choices;
      };
      body = record {
        rows = rows_more (length d.names.fields + 1) (length fs + 1) _ _ _ _ 0 (omega arith) (omega arith) (omega arith) d.body.rows h.body.rows;
        blocks = All-weaker _ _ (block_more (length d.names.fields + 1) (length fs + 1) (length d.body.rows) (length d.body.rows) (omega arith) (omega arith)) d.body.blocks h.body.blocks;
      };
    }

-- what holds of a width is kept when a width of which it holds is written
width_put : (ws : List ℕ) (i n : ℕ) (P : ℕ → Type 0) → (g : ℕ) → P (get_or ws g 0) → (g ≡ i → P n) → P (get_or (set ws i n) g 0)
width_put [] i n P g h p = h
width_put (w ∷ ws) zero n P zero h p = p refl
width_put (w ∷ ws) zero n P (suc g) h p = h
width_put (w ∷ ws) (suc i) n P zero h p = h
width_put (w ∷ ws) (suc i) n P (suc g) h p = width_put ws i n P g h (λ e. p (omega arith))

pub width_set : (d : Seen) (f n : ℕ) → f ≡ length d.names.fields → 1 ≤ f → n ≤ 32 → State d → State (set_width f n d)
width_set d f n e some small h = record {
  names = record {
    headers = h.names.headers;
    fields = h.names.fields;
    tables = h.names.tables;
    widths = record {
      each = length-set d.names.widths f n ∙ h.names.widths.each;
      narrow = λ g. width_put d.names.widths f n (λ (w : ℕ). w ≤ 32) g (h.names.widths.narrow g) (λ e1. small);
      out = width_put d.names.widths f n (λ (w : ℕ). w ≡ 8) 0 h.names.widths.out (λ e1. omega arith);
      others = λ g b. width_put d.names.widths f n (λ (w : ℕ). w ≡ 0) g (h.names.widths.others g b) (λ e1. omega arith);
    };
  };
  tables = h.tables;
  routes = h.routes;
  body = h.body;
}

-- the width that was awaited is written
pub widened : (ws : List ℕ) (f n : ℕ) → f < length ws → 1 ≤ n → Wide (f - 1) ws → Wide f (set ws f n)
widened ws f n b l h g low high = go (cases_eq g f)
  where
    go : (g ≡ f) ⊎ (g ≡ f → ⊥) → 1 ≤ get_or (set ws f n) g 0
    go (inl e) = rw (e, get_or-set_same ws f n 0 b) l
    go (inr q) = rw (get_or-set_other ws f g n 0 q) (h g low (omega arith))
