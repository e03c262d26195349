-- Steps within headers keep what holds.
use Rattle.std.proofs.Common.{◌≡◌, ℕ, ◌+◌, ◌<◌, ◌≤◌, min, true, ◌&&◌, ltb, ◌⊎◌, List, [], ◌∷◌, ◌++◌, length, set, sym, refl, inl, inr, arith}
use Rattle.std.proofs.lemmas.List.{length_push}
use Rattle.std.proofs.lemmas.Bool.{ltb-true, and_parts, or_parts, cases_lt}
use Rattle.token.specs.declared.token.Sign.TheVariants.{Open, Close, Semicolon}
use Rattle.token.specs.Tokens.{Token}
use Rattle.source.specs.Names.{Field, find, find_in}
use Rattle.source.specs.State.{HeaderPhase, HeaderName, HeaderOpen, FieldName, FieldWidth, FieldEnd, InHeader, Seen}
use Rattle.source.specs.Steps.{is_sign}
use Rattle.source.specs.Declaring.{is_out, header_taken, field_taken, whole_bytes, more_bits, in_header}
use Rattle.limits.specs.Numbering.{FieldsNumbered}
use Rattle.limits.specs.Naming.{Wide}
use Rattle.limits.specs.Bits.{bits_of, WholeBytes}
use Rattle.limits.proofs.Sums.{bits_none, bits_here, bits_there, whole_bytes_lem}
use Rattle.limits.proofs.Apart.{none_there}
use Rattle.limits.proofs.Words.{Proper}
use Rattle.limits.proofs.Stepping.{After, goes, stops, if_kept, sign_kept, name_kept, number_kept, fresh_kept, room_kept}
use Rattle.limits.proofs.Sound.{Held}
use Rattle.limits.proofs.Growing.{header_added, field_added, width_set, widened}

-- the last header ends
all_whole : (h headers bits : ℕ) (fs : List Field) (ws : List ℕ) → h + 1 ≡ headers → ((g : ℕ) → g < h → WholeBytes (bits_of fs ws g)) → min (bits_of fs ws h) 257 ≡ bits → whole_bytes bits ≡ true →
    (g : ℕ) → g < headers → WholeBytes (bits_of fs ws g)
all_whole h headers bits fs ws last before so_far t g b = go (cases_lt g h)
  where
    go : (g < h) ⊎ (h ≤ g) → WholeBytes (bits_of fs ws g)
    go (inl l) = before g l
    go (inr l) = let e : g ≡ h = omega arith in rw e (whole_bytes_lem (bits_of fs ws h) bits so_far t)

-- the width of the newest field is written
bits_so_far : (fs front : List Field) (w : List ℕ) (h f n bits : ℕ) (ws : List ℕ) → fs ≡ front ++ record { name = w; header = h; number = f } ∷ [] → FieldsNumbered 1 fs → length front + 1 ≡ f →
    f < length ws → min (bits_of front ws h) 257 ≡ bits → min (bits_of fs (set ws f n) h) 257 ≡ more_bits bits n
bits_so_far fs front w h f n bits ws e r l b s = let p = bits_here front w h f n ws (rw e at r) l b in rw e (omega arith)

bits_before : (fs front : List Field) (w : List ℕ) (h f n : ℕ) (ws : List ℕ) → fs ≡ front ++ record { name = w; header = h; number = f } ∷ [] → FieldsNumbered 1 fs → length front + 1 ≡ f →
    ((g : ℕ) → g < h → WholeBytes (bits_of front ws g)) → (g : ℕ) → g < h → WholeBytes (bits_of fs (set ws f n) g)
bits_before fs front w h f n ws e r l s g b = rw (e, bits_there front w h g f n ws (rw e at r) l b) (s g b)

newest_is : (fs front : List Field) (x : Field) (f : ℕ) → fs ≡ front ++ x ∷ [] → length front + 1 ≡ f → f ≡ length fs
newest_is fs front x f e l = rw e (omega (arith, length_push front x))

pub headers_keep : (p : HeaderPhase) (d : Seen) (x : Token) → Proper x → Held (InHeader p) d → After Held (in_header p d x)
headers_keep HeaderName d x p h =
    name_kept x _ (λ w word. fresh_kept (header_taken d.names w) x.at w _ (λ new s. room_kept x.at (length d.names.headers) 8 _ (λ l.
    let none : bits_of d.names.fields d.names.widths (length d.names.headers) ≡ 0 =
    bits_none 0 (length d.names.headers) d.names.fields d.names.widths (length d.names.headers) h.state.names.fields.rising (omega arith) in
    goes (record {
      state = header_added d w (length d.names.headers) refl (record { some = p.some w word; short = s }) (none_there (find d.names.headers w) new) l h.state;
      phase = record {
        last = sym (length_push d.names.headers (record { name = w; number = length d.names.headers }));
        wide = h.phase.shaped.wide;
        before = h.phase.shaped.whole;
        so_far = omega arith;
        all_declared = h.phase.all_declared;
        at_rest = h.phase.at_rest;
      };
    }))))
headers_keep (HeaderOpen k) d x p h = sign_kept Open x _ (goes (record { state = h.state; phase = h.phase }))
headers_keep (FieldName k bits) d x p h =
    if_kept (is_sign Close x.kind) _ _
    (λ e. if_kept (whole_bytes bits) _ _
    (λ t. goes (record {
      state = h.state;
      phase = record {
        shaped = record { wide = h.phase.wide; whole = all_whole k _ bits d.names.fields d.names.widths h.phase.last h.phase.before h.phase.so_far t };
        all_declared = h.phase.all_declared;
        at_rest = h.phase.at_rest;
      };
    }))
    (λ t. stops))
    (λ e. name_kept x _ (λ w word. fresh_kept (field_taken d.names k w) x.at w _ (λ new s. room_kept x.at (length d.names.fields + 1) 64 _ (λ l. goes (record {
      state = field_added d w k (length d.names.fields + 1) refl h.phase.last (record { some = p.some w word; short = s }) (or_parts (is_out w) _ new).0 (none_there (find_in d.names.fields k w) (or_parts (is_out w) _ new).1) l h.state;
      phase = record {
        last = h.phase.last;
        front = d.names.fields;
        name = w;
        newest = refl;
        number = refl;
        wide = λ f low high. h.phase.wide f low (omega arith);
        before = h.phase.before;
        so_far = h.phase.so_far;
        all_declared = h.phase.all_declared;
        at_rest = h.phase.at_rest;
      };
    })))))
headers_keep (FieldWidth k f bits) d x p h =
    number_kept x _ (λ n below. if_kept (ltb 0 n && ltb n 33) _ _ (λ e.
    let low : 0 < n = ltb-true 0 n (and_parts (ltb 0 n) (ltb n 33) e).0 in
    let high : n < 33 = ltb-true n 33 (and_parts (ltb 0 n) (ltb n 33) e).1 in
    let is : f ≡ length d.names.fields = newest_is d.names.fields h.phase.front _ f h.phase.newest h.phase.number in
    let b : f < length d.names.widths = omega (arith, h.state.names.widths.each, h.state.names.fields.few) in
    let w : Wide f (set d.names.widths f n) = widened d.names.widths f n b low h.phase.wide in
    goes (record {
      state = width_set d f n is (omega (arith, h.phase.number)) (omega arith) h.state;
      phase = record {
        last = h.phase.last;
        wide = λ g l m. w g l (omega arith);
        before = bits_before d.names.fields h.phase.front h.phase.name k f n d.names.widths h.phase.newest h.state.names.fields.numbered h.phase.number h.phase.before;
        so_far = bits_so_far d.names.fields h.phase.front h.phase.name k f n bits d.names.widths h.phase.newest h.state.names.fields.numbered h.phase.number b h.phase.so_far;
        all_declared = h.phase.all_declared;
        at_rest = h.phase.at_rest;
      };
    })) (λ e. stops))
headers_keep (FieldEnd k bits) d x p h = sign_kept Semicolon x _ (goes (record { state = h.state; phase = h.phase }))
