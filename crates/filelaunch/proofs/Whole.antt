-- What a file's lines and its table come to together. Assumes nothing.
use mathlib.Core.Path.{◌≡◌, refl, sym, ap, ◌∙◌}
use mathlib.Core.List.{List}
use mathlib.Core.Option.{Option, none, some}
use Prim.Native.Nat.{ℕ, ◌*◌, ◌%◌, ◌<◌, ◌≤◌}
use native.Mathlib.Omega.{arith}
use lib.ListN.{length, get_or}
use lib.Seq.{length-take-le}
use Rattle.std.specs.Prelude.{Result, Ok, Err}
use Rattle.launchfile.specs.declared.Launch as declared
use Rattle.spec.specs.declared.Refusal.{Refusal}
use Rattle.spec.specs.Table.{rows_of}
use Rattle.spec.specs.TableCheck.{table_refusal}
use Rattle.spec.specs.Shape.{sizes}
use Rattle.spec.specs.Launch.{Launch}
use Rattle.spec.specs.LaunchFile.{Read, stop, read, refused, accepted, unless_refused, checked_table, file_launch}
use Rattle.spec.specs.Entries.{bare_launch}
use Rattle.reader.specs.Answer.{end_at}
use Rattle.reader.proofs.Ready.{runnable}
use Rattle.launchfile.specs.Parsed.{lines_read, ReadAs, ParsedIs, AcceptedAs}
use Rattle.launchfile.proofs.Whole.{whole_file}
use Rattle.filelaunch.specs.Founds.{table_bytes, global_words, launch_in, FoundIs}

ok_err : {A E : Type 0} {a : A} {e : E} → ◌≡◌ {A = Result A E} (Ok a) (Err e) → ⊥
ok_err q = cc

-- What the reader's answer says of the lines.
lines_refused : (x : Read Launch) (why : Refusal) → ReadAs x (Err why) → x ≡ stop why
lines_refused (stop r) why h = let e : r ≡ why = cc in ap stop e
lines_refused (read launch line rest) why h = absurd h

record Accepted (x : Read Launch) (l : declared.Launch) : Type 0 where
  pub launch : Launch
  pub line : ℕ
  pub rest : List ℕ
  pub lines : x ≡ read launch line rest
  pub stands : AcceptedAs launch l

lines_accepted : (x : Read Launch) (l : declared.Launch) → ReadAs x (Ok l) → Accepted x l
lines_accepted (stop r) l h = absurd (ok_err h)
lines_accepted (read launch line rest) l h = record { launch = launch; line = line; rest = rest; lines = refl; stands = h }

same_launch : (launch : Launch) (l : declared.Launch) → AcceptedAs launch l → launch ≡ launch_in l
unfolding bare_launch
same_launch launch l a =
    let many : l.shared ≡ length (global_words l) = sym (length-take-le l.shared l.global (omega (arith, a.global_long, a.within.few_cells))) in
    let Z = sym a.sizes_are ∙ ap (sizes l.threads l.each l.groups) many in
    λ i. record { sizes = Z i; limit = sym a.limit i; table = sym a.table i; cells = sym a.cells i }

-- A refusal of the lines.
pub lines_turned_back : (file : List ℕ) (why : Refusal) → ParsedIs file (Err why) → FoundIs file (Err why)
unfolding checked_table
lines_turned_back file why h = whole_file file ∙ ap checked_table (lines_refused (lines_read file) why h.read_as)

module _ (file : List ℕ) (l : declared.Launch) (h : ParsedIs file (Ok l)) where
  abbrev lines : Accepted (lines_read file) l
  lines = lines_accepted (lines_read file) l h.read_as

  of_file : AcceptedAs lines.launch l
  of_file = lines.stands

  by_table_lem : file_launch file ≡ unless_refused (table_refusal (rows_of (table_bytes l))) (launch_in l)
  unfolding checked_table bare_launch
  by_table_lem =
      whole_file file
      ∙ ap checked_table lines.lines
      ∙ ap (λ (l : Launch). unless_refused (table_refusal l.table) l) (same_launch lines.launch l of_file)

  table_refused : (why : Refusal) → table_refusal (rows_of (table_bytes l)) ≡ some why → file_launch file ≡ refused why
  unfolding unless_refused
  table_refused why q = by_table_lem ∙ ap (λ (x : Option Refusal). unless_refused x (launch_in l)) q

  launch_accepted : table_refusal (rows_of (table_bytes l)) ≡ none → file_launch file ≡ accepted (launch_in l)
  unfolding unless_refused
  launch_accepted q = by_table_lem ∙ ap (λ (x : Option Refusal). unless_refused x (launch_in l)) q

  -- The part that holds the table.
  pub table_used : 4 * l.rows ≤ length l.table
  table_used = omega (arith, of_file.table_long, of_file.within.few_rows)

  table_length : 4 * l.rows ≡ length (table_bytes l)
  table_length = sym (length-take-le (4 * l.rows) l.table table_used)

  pub whole_rows : (length (table_bytes l) % 4 ≡ 0) × (length (table_bytes l) ≤ 4 * 256)
  whole_rows = (omega (arith, table_length), omega (arith, table_length, of_file.within.few_rows))

  -- What its check found is what is found in the file.
  pub table_turned_back : (why : Refusal) → some why ≡ table_refusal (rows_of (table_bytes l)) → FoundIs file (Err why)
  table_turned_back why a = table_refused why (sym a)

  pub checked_is : (ends : List ℕ) → none ≡ table_refusal (rows_of (table_bytes l))
      → ((i : ℕ) → i < 256 → get_or ends i 0 ≡ end_at (rows_of (table_bytes l)) i) → FoundIs file (Ok (record { launch = l; ends = ends }))
  checked_is ends a f =
      record {
        launch_is = launch_accepted (sym a);
        runnable = runnable (table_bytes l) ends whole_rows.1 (sym a) f;
        within = of_file.within;
        own = of_file.own;
        table_long = of_file.table_long;
        cells_long = of_file.cells_long;
        global_long = of_file.global_long;
      }
