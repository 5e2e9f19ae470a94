pub mod AddressIn
