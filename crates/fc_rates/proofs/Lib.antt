pub mod RateTable
