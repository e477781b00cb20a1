pub mod Billing
