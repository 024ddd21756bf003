-- What one SELECT prints, and why it has no answer.
use Rattle.std.specs.Prelude.{◌≡◌, ◌+◌, ◌++◌, ℕ, List, [], map, slice_get, if◌then◌else◌, Option, Some, None, IfSome}
use Rattle.rx_value.specs.declared.shapes.Schema.{Schema}
use Rattle.rx_store.specs.Tables.{Meaning}
use Rattle.rx_store.specs.declared.tables.TableFault.{TableFault}
use Rattle.rx_store.specs.declared.tables.TableFault.TheVariants as of_table
use Rattle.rx_query.specs.Steps.{Question}
use Rattle.rx_query.specs.declared.settings.Settings.{Settings}
use Rattle.rx_cost.specs.declared.candidates.Candidate.{Candidate}
use Rattle.rx_trace.specs.Trace.{Trace, trace_line}
use Rattle.rx_engine.specs.declared.answering.Answer.{Answer}
use Rattle.rx_engine.specs.declared.plans.Plan.{Plan}
use Rattle.rx_engine.specs.declared.engine.Report.{Report}
use Rattle.rx_engine.specs.declared.engine.Block.{Block}
use Rattle.rx_engine.specs.declared.engine.SelectFault.{SelectFault}
use Rattle.rx_engine.specs.declared.engine.SelectFault.TheVariants.{ReadFault, WriteFault, Damaged, NoMemory}
use Rattle.rx_engine.specs.Blocks.{block_over, report_of}

-- a block of text with its report
pub record IsBlock (text : List ℕ) (report : Report) (block : Block) : Type 0 where
  pub text_is : block.text ≡ text
  pub report_is : block.report ≡ report

-- the block and the report of a question, where the rows are told
abbrev pub IsBlockOf : Settings → ℕ → Question → Meaning → Block → Type 0
IsBlockOf settings number q table block =
    IfSome table.told (λ t. IsBlock (block_over settings number q table t) (report_of settings q table t) block)

-- the report of a question, where the rows are told
abbrev pub IsReportOf : Settings → Question → Meaning → Report → Type 0
IsReportOf settings q table report = IfSome table.told (λ t. report ≡ report_of settings q table t)

-- the report of a plan where so many rows were printed
pub record IsReportBy (plan : Plan) (rows : ℕ) (report : Report) : Type 0 where
  pub candidate : Candidate
  pub there : slice_get plan.all plan.chosen ≡ Some candidate
  pub is : report ≡ record { kind = candidate.kind; n = plan.chosen + 1; cost = candidate.cost; rows = rows }

-- the trace of a plan whose candidate answered
abbrev pub trace_of_plan : ℕ → Plan → Answer → Trace
trace_of_plan number plan answer =
    record { statement = number; all = plan.all; chosen = plan.chosen; answers = plan.reasons; dive_seeks = plan.dives; reads = answer.reads }

-- the line of the trace was added, where that is on, and nothing else changed
pub record IsTraced (settings : Settings) (number : ℕ) (schema : Schema) (plan : Plan) (old new : Answer) : Type 0 where
  pub text_is : new.text ≡ old.text ++ (if settings.trace then trace_line schema (trace_of_plan number plan old) else [])
  pub rows_are : new.rows ≡ old.rows

-- the fault of the table, where it is one
abbrev pub table_fault : SelectFault → Option TableFault
table_fault ReadFault = Some of_table.ReadFault
table_fault WriteFault = None
table_fault (Damaged at) = Some (of_table.Damaged at)
table_fault NoMemory = Some of_table.NoMemory

-- a fault of the table as one of the SELECT
abbrev pub select_fault : TableFault → SelectFault
select_fault of_table.ReadFault = ReadFault
select_fault (of_table.Damaged at) = Damaged at
select_fault of_table.NoMemory = NoMemory
