-- The desk's lines: each kind with its fields in their order. A line is a whole text, its newline at its end.
-- Assumes nothing.
use Rattle.std.specs.Prelude.{◌≡◌, List, [], ◌∷◌, ℕ, eqb, length, get_or}
use Rattle.reckon.specs.Tests.{pick}
use Rattle.text.specs.Reading.{Reading, read_line}
use Rattle.text.specs.Reading.Reading.{read, unread}
use Rattle.hatches.specs.Lines.{hatch_word, hatch_fields, as_hatch, back_word, back_fields, as_back}
use Rattle.desks.specs.declared.orders.Order.{Order}
use Rattle.desks.specs.declared.orders.Order.TheVariants.{Sheet, Entered, Draw, Step, Show, Arrows, Most, Stand, Lay, NoOrder}

-- the words that lines begin with; `hatch` and `back` are the hatch log's
abbrev pub sheet_word : List ℕ
sheet_word = 115 ∷ 104 ∷ 101 ∷ 101 ∷ 116 ∷ []

abbrev pub draw_word : List ℕ
draw_word = 100 ∷ 114 ∷ 97 ∷ 119 ∷ []

abbrev pub step_word : List ℕ
step_word = 115 ∷ 116 ∷ 101 ∷ 112 ∷ []

abbrev pub show_word : List ℕ
show_word = 115 ∷ 104 ∷ 111 ∷ 119 ∷ []

abbrev pub arrows_word : List ℕ
arrows_word = 97 ∷ 114 ∷ 114 ∷ 111 ∷ 119 ∷ 115 ∷ []

abbrev pub most_word : List ℕ
most_word = 109 ∷ 111 ∷ 115 ∷ 116 ∷ []

abbrev pub stand_word : List ℕ
stand_word = 115 ∷ 116 ∷ 97 ∷ 110 ∷ 100 ∷ []

abbrev pub lay_word : List ℕ
lay_word = 108 ∷ 97 ∷ 121 ∷ []

-- the fields of each kind in their order
abbrev pub as_sheet : List ℕ → Order
as_sheet vs = Sheet (get_or vs 0 0)

abbrev pub as_lay : List ℕ → Order
as_lay vs = Lay (get_or vs 0 0)

abbrev pub as_named : List ℕ → Order
as_named vs = Entered (as_hatch vs)

abbrev pub as_draw : List ℕ → Order
as_draw vs = Draw (get_or vs 0 0) (get_or vs 1 0)

abbrev pub as_step : List ℕ → Order
as_step vs = Step (get_or vs 0 0) (get_or vs 1 0) (get_or vs 2 0)

abbrev pub as_backs : List ℕ → Order
as_backs vs = Entered (as_back vs)

abbrev pub as_most : List ℕ → Order
as_most vs = Most (get_or vs 0 0)

abbrev pub as_show : List ℕ → Order
as_show vs = Show

abbrev pub as_arrows : List ℕ → Order
as_arrows vs = Arrows

abbrev pub as_stand : List ℕ → Order
as_stand vs = Stand

-- a reading that comes to the text's end, else nothing
abbrev pub to_the_end : ℕ → Reading → Reading
to_the_end n (read vs q) = pick (eqb q n) (read vs q) unread
to_the_end n unread = unread

-- a line of a kind, with so many fields, that is the whole text
unfoldable pub read_whole : List ℕ → List ℕ → ℕ → Reading
read_whole s word count = to_the_end (length s) (read_line s 0 word count)

-- what a reading asks for, or else another order
abbrev pub order_from : Reading → (List ℕ → Order) → Order → Order
order_from (read vs q) make other = make vs
order_from unread make other = other

-- `show`, `arrows`, `most` end, `stand`
unfoldable pub look_order : List ℕ → Order
look_order s =
    order_from (read_whole s show_word 0) as_show
    (order_from (read_whole s arrows_word 0) as_arrows
    (order_from (read_whole s most_word 1) as_most (order_from (read_whole s stand_word 0) as_stand NoOrder)))

-- `hatch` number row column, `draw` number litres, `step` count end every, `back` count
unfoldable pub try_order : List ℕ → Order
try_order s =
    order_from (read_whole s hatch_word hatch_fields) as_named
    (order_from (read_whole s draw_word 2) as_draw
    (order_from (read_whole s step_word 3) as_step
    (order_from (read_whole s back_word back_fields) as_backs (look_order s))))

-- `sheet` bytes, `lay` bytes, and the others; a line that cannot be read asks for nothing
unfoldable pub order : List ℕ → Order
order s =
    order_from (read_whole s sheet_word 1) as_sheet (order_from (read_whole s lay_word 1) as_lay (try_order s))

-- ---- what the public function gives

abbrev pub OrderRead : List ℕ → Order → Type 0
OrderRead s r = r ≡ order s
